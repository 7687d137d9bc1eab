-- Numbers and their octets.
use Rattle.std.proofs.Common.{◌≡◌, ℕ, zero, suc, ◌+◌, ◌*◌, ◌<◌, ◌≤◌, List, [], ◌∷◌, ◌++◌, length, drop, take}
use Rattle.std.proofs.Common.{slice_index, append_assoc, refl, ap, ap₂, sym, subst, ◌∙◌, arith}
use Rattle.std.proofs.lemmas.List.{get_or-drop, drop-drop, length-drop}
use Rattle.std.proofs.lemmas.Nat.{be_bytes_4, be_bytes_8}
use Rattle.byteorder.specs.Endian.{big_bytes, big_number}
use Rattle.bm_ipv4.specs.Fields.{octet_at, u16_at, u32_at}
use Rattle.bm_encap.specs.Faults.{u64_at}
use Rattle.bm_encap.specs.Spellings.{spelled}

abbrev pub AreOctets : List ℕ → Type 0
AreOctets xs = (i : ℕ) → slice_index xs i < 256

front1 : (xs : List ℕ) (v : ℕ) → 1 ≤ length xs → AreOctets xs → slice_index xs 0 ≡ v → xs ≡ big_bytes 1 v ++ drop 1 xs
front1 [] v len are is = absurd (omega arith)
front1 (a ∷ xs) v len are is = ap (λ x. x ∷ xs) (omega (arith, are 0))

front2 : (xs : List ℕ) (v : ℕ) → 2 ≤ length xs → AreOctets xs → big_number 2 xs ≡ v → xs ≡ big_bytes 2 v ++ drop 2 xs
front2 [] v len are is = absurd (omega arith)
front2 (a ∷ []) v len are is = absurd (omega arith)
front2 (a ∷ b ∷ xs) v len are is = ap₂ (λ x y. x ∷ y ∷ xs) (omega (arith, are 0, are 1)) (omega (arith, are 0, are 1))

octets_front : (n : ℕ) (xs : List ℕ) → AreOctets xs → AreOctets (take n xs)
octets_front zero xs are i = omega arith
octets_front (suc n) [] are i = omega arith
octets_front (suc n) (x ∷ xs) are zero = are 0
octets_front (suc n) (x ∷ xs) are (suc i) = octets_front n xs (λ k. are (suc k)) i

front4 : (xs : List ℕ) (v : ℕ) → 4 ≤ length xs → AreOctets xs → big_number 4 xs ≡ v → xs ≡ big_bytes 4 v ++ drop 4 xs
front4 [] v len are is = absurd (omega arith)
front4 (a ∷ []) v len are is = absurd (omega arith)
front4 (a ∷ b ∷ []) v len are is = absurd (omega arith)
front4 (a ∷ b ∷ c ∷ []) v len are is = absurd (omega arith)
front4 (a ∷ b ∷ c ∷ d ∷ xs) v len are is =
    ap (λ (ys : List ℕ). ys ++ xs)
    (sym (be_bytes_4 (a ∷ b ∷ c ∷ d ∷ []) v refl (octets_front 4 (a ∷ b ∷ c ∷ d ∷ xs) are) (sym is ∙ omega arith)))

front8 : (xs : List ℕ) (v : ℕ) → 8 ≤ length xs → AreOctets xs → big_number 8 xs ≡ v → xs ≡ big_bytes 8 v ++ drop 8 xs
front8 [] v len are is = absurd (omega arith)
front8 (a ∷ []) v len are is = absurd (omega arith)
front8 (a ∷ b ∷ []) v len are is = absurd (omega arith)
front8 (a ∷ b ∷ c ∷ []) v len are is = absurd (omega arith)
front8 (a ∷ b ∷ c ∷ d ∷ []) v len are is = absurd (omega arith)
front8 (a ∷ b ∷ c ∷ d ∷ e ∷ []) v len are is = absurd (omega arith)
front8 (a ∷ b ∷ c ∷ d ∷ e ∷ f ∷ []) v len are is = absurd (omega arith)
front8 (a ∷ b ∷ c ∷ d ∷ e ∷ f ∷ g ∷ []) v len are is = absurd (omega arith)
front8 (a ∷ b ∷ c ∷ d ∷ e ∷ f ∷ g ∷ h ∷ xs) v len are is =
    ap (λ (ys : List ℕ). ys ++ xs)
    (sym (be_bytes_8 (a ∷ b ∷ c ∷ d ∷ e ∷ f ∷ g ∷ h ∷ []) v refl
    (octets_front 8 (a ∷ b ∷ c ∷ d ∷ e ∷ f ∷ g ∷ h ∷ xs) are) (sym is ∙ omega arith)))

pub octets_from : (n : ℕ) (xs : List ℕ) → AreOctets xs → AreOctets (drop n xs)
octets_from n xs are i = subst (λ (x : ℕ). x < 256) (sym (get_or-drop n xs i 0)) (are (n + i))

-- A NUMBER AT ITS PLACE SPELLS ITS OCTETS

abbrev pub Stands : List ℕ → ℕ → ℕ → ℕ → Type 0
Stands xs at width v = drop at xs ≡ big_bytes width v ++ drop (at + width) xs

stands : (xs : List ℕ) (at width v : ℕ) → drop at xs ≡ big_bytes width v ++ drop width (drop at xs)
    → Stands xs at width v
stands xs at width v is = is ∙ ap (λ (ys : List ℕ). big_bytes width v ++ ys) (drop-drop width at xs)

first_at : (xs : List ℕ) (at : ℕ) → slice_index (drop at xs) 0 ≡ octet_at xs at
first_at xs at = let here : at + 0 ≡ at = omega arith in get_or-drop at xs 0 0 ∙ ap (λ k. slice_index xs k) here

pub stands1 : (xs : List ℕ) (at v : ℕ) → at + 1 ≤ length xs → AreOctets xs → octet_at xs at ≡ v → Stands xs at 1 v
stands1 xs at v len are is =
    stands xs at 1 v
    (front1 (drop at xs) v (omega (arith, length-drop at xs)) (octets_from at xs are) (first_at xs at ∙ is))

pub stands2 : (xs : List ℕ) (at v : ℕ) → at + 2 ≤ length xs → AreOctets xs → u16_at xs at ≡ v → Stands xs at 2 v
unfolding u16_at
stands2 xs at v len are is =
    stands xs at 2 v (front2 (drop at xs) v (omega (arith, length-drop at xs)) (octets_from at xs are) is)

pub stands4 : (xs : List ℕ) (at v : ℕ) → at + 4 ≤ length xs → AreOctets xs → u32_at xs at ≡ v → Stands xs at 4 v
unfolding u32_at
stands4 xs at v len are is =
    stands xs at 4 v (front4 (drop at xs) v (omega (arith, length-drop at xs)) (octets_from at xs are) is)

pub stands8 : (xs : List ℕ) (at v : ℕ) → at + 8 ≤ length xs → AreOctets xs → u64_at xs at ≡ v → Stands xs at 8 v
unfolding u64_at
stands8 xs at v len are is =
    stands xs at 8 v (front8 (drop at xs) v (omega (arith, length-drop at xs)) (octets_from at xs are) is)

-- two octets as a number
pub pair_at : (xs : List ℕ) (at : ℕ) → u16_at xs at ≡ octet_at xs at * 256 + octet_at xs (at + 1)
unfolding u16_at
pair_at xs at =
    let second : slice_index (drop at xs) 1 ≡ octet_at xs (at + 1) =
    get_or-drop at xs 1 0 in omega (arith, first_at xs at, second)

-- the numbers are in the list, one after another
abbrev pub AllStand : List ℕ → ℕ → List (ℕ × ℕ) → Type 0
AllStand xs at [] = Unit {0}
AllStand xs at (f ∷ fields) = Stands xs at f.0 f.1 × AllStand xs (at + f.0) fields

abbrev pub end_of : ℕ → List (ℕ × ℕ) → ℕ
end_of at [] = at
end_of at (f ∷ fields) = end_of (at + f.0) fields

pub all_stand : (xs : List ℕ) (at : ℕ) (fields : List (ℕ × ℕ)) → AllStand xs at fields → drop at xs ≡ spelled fields
    ++ drop (end_of at fields) xs
all_stand xs at [] all = refl
all_stand xs at (f ∷ fields) all =
    all.0 ∙ (ap (λ (ys : List ℕ). big_bytes f.0 f.1 ++ ys) (all_stand xs (at + f.0) fields all.1)
    ∙ sym (append_assoc (big_bytes f.0 f.1) (spelled fields) (drop (end_of (at + f.0) fields) xs)))
