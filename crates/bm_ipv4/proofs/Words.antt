-- One more word of a one's complement sum, which is kept as a plain sum.
use Rattle.std.proofs.Common.{◌≡◌, ℕ, zero, suc, ◌+◌, ◌-◌, ◌*◌, ◌%◌, ◌^◌, ◌≤◌, ◌<◌, List, [], ◌∷◌, length, get_or, take}
use Rattle.std.proofs.Common.{drop}
use Rattle.std.proofs.Common.{nat_lt, nat_eq, true, false, inl, inr, refl, ap, ap₂, sym, ◌∙◌, arith}
use Rattle.std.proofs.lemmas.Bool.{cases_Bool}
use Rattle.std.proofs.lemmas.Bool.Decides.{nat_tests}
use Rattle.std.proofs.lemmas.List.{take_rest, length-drop}
use Rattle.bm_ipv4.specs.Checksum.{add_ones, ones_from}
use Rattle.bm_ipv4.specs.Inside.Folding.{folded}

-- without a carry
add_small : (a b : ℕ) → nat_lt (a + b) 65536 ≡ true → add_ones a b ≡ a + b
add_small a b small = rw small refl

-- with one
add_large : (a b : ℕ) → nat_lt (a + b) 65536 ≡ false → add_ones a b ≡ a + b - 65535
add_large a b large = rw large refl

folded_suc : (sum : ℕ) → folded (suc sum) ≡ sum % 65535 + 1
folded_suc sum =
    let some : nat_eq (suc sum) 0 ≡ false = grind (arith, nat_tests)
    in rw some (ap (λ n. n % 65535 + 1) (omega arith))

-- a word added to the plain sum is added to the one's complement sum
pub folded_more : (sum word : ℕ) → word < 65536 → add_ones (folded sum) word ≡ folded (sum + word)
folded_more zero zero few = refl
folded_more zero (suc word) few =
    let small : nat_lt (0 + suc word) 65536 ≡ true = grind (arith, nat_tests, few)
    in let same : suc word ≡ 0 + suc word = omega arith
    in let first : 0 + suc word ≡ word % 65535 + 1 = omega (arith, few)
    in add_small 0 (suc word) small ∙ (first ∙ (sym (folded_suc word) ∙ ap folded same))
folded_more (suc sum) word few = rw (folded_suc sum) (elim (cases_Bool (nat_lt (sum % 65535 + 1 + word) 65536)) [
  | inl small ↦
      let below : sum % 65535 + 1 + word < 65536 = grind (arith, nat_tests, small)
      in let first : sum % 65535 + 1 + word ≡ (sum + word) % 65535 + 1 = omega (arith, below)
      in add_small (sum % 65535 + 1) word small ∙ (first ∙ (sym (folded_suc (sum + word)) ∙ ap folded (omega arith)))
  | inr large ↦
      let above : 65536 ≤ sum % 65535 + 1 + word = grind (arith, nat_tests, large)
      in let first : sum % 65535 + 1 + word - 65535 ≡ (sum + word) % 65535 + 1 = omega (arith, above, few)
      in add_large (sum % 65535 + 1) word large ∙ (first ∙ (sym (folded_suc (sum + word)) ∙ ap folded (omega arith)))
])

ones_front : (sum : ℕ) (bs : List ℕ) → 2 ≤ length bs
    → ones_from (add_ones sum (get_or bs 0 0 * 256 + get_or bs 1 0)) (drop 2 bs) ≡ ones_from sum bs
ones_front sum [] h = absurd (omega arith)
ones_front sum (x ∷ []) h = absurd (omega arith)
ones_front sum (x ∷ y ∷ bs) h = refl

-- a number of two words added to the plain sum adds the words: it is more than their sum by a multiple of 65,535
folded_above : (n k : ℕ) → folded (suc n + 65535 * k) ≡ folded (suc n)
folded_above n k =
    let same : suc n + 65535 * k ≡ suc (n + 65535 * k) = omega arith
    in ap folded same ∙ folded_suc (n + 65535 * k)
    ∙ (ap (λ m. m + 1) (let rest : (n + 65535 * k) % 65535 ≡ n % 65535 = omega arith in rest) ∙ sym (folded_suc n))

folded_pair : (n sum high low : ℕ) → sum + high + low ≡ n → folded (sum + (high * 65536 + low)) ≡ folded (sum + high + low)
folded_pair zero sum high low is = ap folded (omega (arith, is))
folded_pair (suc n) sum high low is =
    let above : sum + (high * 65536 + low) ≡ suc n + 65535 * high = omega (arith, is)
    in ap folded above ∙ (folded_above n high ∙ sym (ap folded is))

-- what was added, and that what is left stays within 46 bits
abbrev pub IsSumming : ℕ → List ℕ → List ℕ → Type 0
IsSumming sum rest octets =
    (ones_from (folded sum) rest ≡ ones_from 0 octets) × (sum + 2 ^ 30 * length rest ≤ 2 ^ 46)

-- the two octets in front are added
pub ones_step : (sum word : ℕ) (bs : List ℕ) → 2 ≤ length bs → word ≡ get_or bs 0 0 * 256 + get_or bs 1 0
    → word < 65536 → ones_from (folded (sum + word)) (take (length bs - 2) (drop 2 bs)) ≡ ones_from (folded sum) bs
ones_step sum word bs long is short =
    ap₂ ones_from (sym (folded_more sum word short) ∙ ap (λ n. add_ones (folded sum) n) is) (take_rest bs 2)
    ∙ ones_front (folded sum) bs long

-- and the sum still fits
pub fits_step : (sum more n : ℕ) (bs : List ℕ) → n ≤ length bs → more < 2 ^ 30 * n
    → sum + 2 ^ 30 * length bs ≤ 2 ^ 46 → sum + more + 2 ^ 30 * length (take (length bs - n) (drop n bs)) ≤ 2 ^ 46
fits_step sum more n bs long short room =
    let rest : length (take (length bs - n) (drop n bs)) ≡ length bs - n = ap length (take_rest bs n) ∙ length-drop n bs
    in omega (arith, rest, room, short, long)

pairs_front : (sum : ℕ) (bs : List ℕ) → 4 ≤ length bs
    → ones_from
    (add_ones (add_ones sum (get_or bs 0 0 * 256 + get_or bs 1 0)) (get_or bs 2 0 * 256 + get_or bs 3 0)) (drop 4 bs)
    ≡ ones_from sum bs
pairs_front sum [] h = absurd (omega arith)
pairs_front sum (x ∷ []) h = absurd (omega arith)
pairs_front sum (x ∷ y ∷ []) h = absurd (omega arith)
pairs_front sum (x ∷ y ∷ z ∷ []) h = absurd (omega arith)
pairs_front sum (x ∷ y ∷ z ∷ w ∷ bs) h = refl

-- the four octets in front are added as one number
pub pairs_step : (sum high low : ℕ) (bs : List ℕ) → 4 ≤ length bs
    → high ≡ get_or bs 0 0 * 256 + get_or bs 1 0 → low ≡ get_or bs 2 0 * 256 + get_or bs 3 0
    → high < 65536 → low < 65536
    → ones_from (folded (sum + (high * 65536 + low))) (take (length bs - 4) (drop 4 bs)) ≡ ones_from (folded sum) bs
pairs_step sum high low bs long first second fits_high fits_low =
    let added : folded (sum + (high * 65536 + low)) ≡ add_ones (add_ones (folded sum) high) low =
    folded_pair (sum + high + low) sum high low refl
    ∙ (sym (folded_more (sum + high) low fits_low) ∙ ap (λ n. add_ones n low) (sym (folded_more sum high fits_high)))
    in ap₂ ones_from (added ∙ ap₂ (λ n m. add_ones (add_ones (folded sum) n) m) first second) (take_rest bs 4)
    ∙ pairs_front (folded sum) bs long
