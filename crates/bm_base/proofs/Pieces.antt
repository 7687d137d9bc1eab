-- Lists that stand one after the other in one list.
use Rattle.std.proofs.Common.{◌≡◌, ℕ, zero, suc, ◌+◌, ◌-◌, ◌<◌, ◌≤◌, List, [], ◌∷◌, ◌++◌, length, map, take, drop}
use Rattle.std.proofs.Common.{slice_range, refl, sym, ap, ap₂, subst, ◌∙◌, arith, length-drop, inl, inr}
use Rattle.std.proofs.Common.{◌==◌, false}
use Rattle.std.specs.Prelude.{slice_index_or, slice_set}
use Rattle.std.proofs.Math.Seq.{drop-drop}
use Rattle.std.proofs.lemmas.Bool.{cases_lt}
use Rattle.std.proofs.lemmas.Bool.Decides.{nat_tests}
use Rattle.std.proofs.lemmas.List.{take_all, take-append-le, drop_at, drop-append-le}
use Rattle.bm_base.specs.Pieces.{cleared}
use Rattle.bm_base.specs.Inside.Pieces.{AreEnds, begin_of, pieces}

pub length_pieces : (from : ℕ) (ends octets : List ℕ) → length (pieces from ends octets) ≡ length ends
length_pieces from [] octets = refl
length_pieces from (end ∷ ends) octets = ap suc (length_pieces end ends octets)

pub ends_rise : (from : ℕ) (ends : List ℕ) (last : ℕ) → AreEnds from ends last → from ≤ last
ends_rise from [] last are = omega (arith, are)
ends_rise from (end ∷ ends) last are = omega (arith, are.0, ends_rise end ends last are.1)

pub ends_more : (from : ℕ) (ends : List ℕ) (last more : ℕ) → AreEnds from ends last → last ≤ more
    → AreEnds from (ends ++ more ∷ []) more
ends_more from [] last more are rise = (omega (arith, are, rise), refl)
ends_more from (end ∷ ends) last more are rise = (are.0, ends_more end ends last more are.1 rise)

-- what stands in front stays
range_front : (xs ys : List ℕ) (from end : ℕ) → from ≤ end → end ≤ length xs
    → slice_range (xs ++ ys) from end ≡ slice_range xs from end
range_front xs ys from end rise within =
    ap (take (end - from)) (drop-append-le from xs ys (omega (arith, rise, within)))
    ∙ take-append-le (end - from) (drop from xs) ys (omega (arith, length-drop from xs, within))

range_back : (xs ys : List ℕ) (from end : ℕ) → from ≡ length xs → end ≡ length xs + length ys
    → slice_range (xs ++ ys) from end ≡ ys
range_back xs ys from end here is =
    ap (take (end - from)) (drop_at xs ys from (sym here)) ∙ take_all (end - from) ys (omega (arith, here, is))

-- one list more
pub pieces_more : (from : ℕ) (ends xs ys : List ℕ) (end : ℕ) → AreEnds from ends (length xs)
    → end ≡ length xs + length ys → pieces from (ends ++ end ∷ []) (xs ++ ys) ≡ pieces from ends xs ++ ys ∷ []
pieces_more from [] xs ys end are is = ap (λ (z : List ℕ). z ∷ []) (range_back xs ys from end are is)
pieces_more from (next ∷ ends) xs ys end are is =
    ap₂ (λ (z : List ℕ) (zs : List (List ℕ)). z ∷ zs)
    (range_front xs ys from next are.0 (ends_rise next ends (length xs) are.1))
    (pieces_more next ends xs ys end are.1 is)

pub first_piece : (from : ℕ) (ends octets : List ℕ) → 0 < length ends
    → slice_index_or (pieces from ends octets) 0 [] ≡ slice_range octets from (slice_index_or ends 0 0)
first_piece from [] octets some = absurd (omega (arith, some))
first_piece from (end ∷ ends) octets some = refl

pub later_piece : (i from : ℕ) (ends octets : List ℕ) → suc i < length ends
    → slice_index_or (pieces from ends octets) (suc i) []
    ≡ slice_range octets (slice_index_or ends i 0) (slice_index_or ends (suc i) 0)
later_piece zero from [] octets some = absurd (omega (arith, some))
later_piece zero from (a ∷ []) octets some = absurd (omega (arith, some))
later_piece zero from (a ∷ b ∷ ends) octets some = refl
later_piece (suc i) from [] octets some = absurd (omega (arith, some))
later_piece (suc i) from (a ∷ ends) octets some = later_piece i a ends octets (omega (arith, some))

pub end_within : (i from : ℕ) (ends : List ℕ) (last : ℕ) → AreEnds from ends last → i < length ends
    → (from ≤ slice_index_or ends i 0) × (slice_index_or ends i 0 ≤ last)
end_within i from [] last are some = absurd (omega (arith, some))
end_within zero from (a ∷ ends) last are some = (are.0, ends_rise a ends last are.1)
end_within (suc i) from (a ∷ ends) last are some =
    let e = end_within i a ends last are.1 (omega (arith, some)) in
    (omega (arith, are.0, e.0), e.1)

pub end_rises : (i from : ℕ) (ends : List ℕ) (last : ℕ) → AreEnds from ends last → suc i < length ends
    → slice_index_or ends i 0 ≤ slice_index_or ends (suc i) 0
end_rises i from [] last are some = absurd (omega (arith, some))
end_rises zero from (a ∷ ends) last are some = (end_within 0 a ends last are.1 (omega (arith, some))).0
end_rises (suc i) from (a ∷ ends) last are some = end_rises i a ends last are.1 (omega (arith, some))

first_at : (at : ℕ) (ends octets : List ℕ) (last : ℕ) → AreEnds 0 ends last → at < length ends
    → (begin_of ends at ≤ slice_index_or ends at 0)
    × (slice_index_or (pieces 0 ends octets) at [] ≡ slice_range octets (begin_of ends at) (slice_index_or ends at 0))
first_at at ends octets last are within =
    elim (cases_lt at 1) [
      | inl first ↦
          let z : at ≡ 0 = omega (arith, first) in
          rw z (omega arith, first_piece 0 ends octets (omega (arith, within, z)))
      | inr later ↦
          let i : ℕ = at - 1 in
          let s : at ≡ suc i = omega (arith, later) in
          let t : (at == 0) ≡ false = grind (arith, nat_tests, later) in
          let more : suc i < length ends = omega (arith, later, within) in
          rw t (subst
          (λ (n : ℕ). (slice_index_or ends i 0 ≤ slice_index_or ends n 0)
          × (slice_index_or (pieces 0 ends octets) n []
          ≡ slice_range octets (slice_index_or ends i 0) (slice_index_or ends n 0))) (sym s)
          (end_rises i 0 ends last are more, later_piece i 0 ends octets more))
    ]

pub begins : (at : ℕ) (ends : List ℕ) (last : ℕ) → AreEnds 0 ends last → at < length ends
    → begin_of ends at ≤ slice_index_or ends at 0
begins at ends last are within = (first_at at ends [] last are within).0

pub piece_at : (at : ℕ) (ends octets : List ℕ) (last : ℕ) → AreEnds 0 ends last → at < length ends
    → slice_index_or (pieces 0 ends octets) at [] ≡ slice_range octets (begin_of ends at) (slice_index_or ends at 0)
piece_at at ends octets last are within = (first_at at ends octets last are within).1

-- NUMBERS THAT ARE LOWERED ONE AFTER THE OTHER

-- the numbers in front of the place are lower
abbrev pub lowered : ℕ → ℕ → List ℕ → List ℕ
lowered by place numbers = map (λ n. n - by) (take place numbers) ++ drop place numbers

lower_here : (by place : ℕ) (old : List ℕ) (d : ℕ) → place < length old
    → slice_set (lowered by place old) place (slice_index_or (lowered by place old) place d - by)
    ≡ lowered by (suc place) old
lower_here by place [] d inside = absurd (omega (arith, inside))
lower_here by zero (n ∷ old) d inside = refl
lower_here by (suc place) (n ∷ old) d inside =
    ap (λ (l : List ℕ). (n - by) ∷ l) (lower_here by place old d (omega (arith, inside)))

pub lower_next : (by place : ℕ) (now old : List ℕ) (d v : ℕ) → place < length old → now ≡ lowered by place old
    → v ≡ slice_index_or now place d - by → slice_set now place v ≡ lowered by (place + 1) old
lower_next by place now old d v inside is value =
    let more : place + 1 ≡ suc place = omega arith in
    rw (more, value, is) (lower_here by place old d inside)

pub all_lowered : (by place : ℕ) (old : List ℕ) → length old ≤ place
    → lowered by place old ≡ map (λ n. n - by) old
all_lowered by zero [] all = refl
all_lowered by zero (n ∷ old) all = absurd (omega (arith, all))
all_lowered by (suc place) [] all = refl
all_lowered by (suc place) (n ∷ old) all =
    ap (λ (l : List ℕ). (n - by) ∷ l) (all_lowered by place old (omega (arith, all)))

-- LISTS THAT ARE CLEARED

-- the end of the last list
abbrev end_of : ℕ → ℕ → List ℕ → ℕ
end_of zero from ends = from
end_of (suc count) from [] = from
end_of (suc count) from (end ∷ ends) = end_of count end ends

-- a range of what is left after this place
range_left : (gone from end : ℕ) (octets : List ℕ) → gone ≤ from
    → slice_range (drop gone octets) (from - gone) (end - gone) ≡ slice_range octets from end
range_left gone from end octets behind =
    let count : (end - gone) - (from - gone) ≡ end - from = omega (arith, behind) in
    let place : gone + (from - gone) ≡ from = omega (arith, behind) in
    ap₂ (λ (n : ℕ) (l : List ℕ). take n l) count
    (drop-drop (from - gone) gone octets ∙ ap (λ (n : ℕ). drop n octets) place)

-- no list is cleared
none_cleared : (gone from : ℕ) (ends octets : List ℕ) (last : ℕ) → AreEnds from ends last → gone ≤ from
    → pieces (from - gone) (map (λ e. e - gone) ends) (drop gone octets) ≡ pieces from ends octets
none_cleared gone from [] octets last are behind = refl
none_cleared gone from (end ∷ ends) octets last are behind =
    ap₂ (λ (l : List ℕ) (ls : List (List ℕ)). l ∷ ls) (range_left gone from end octets behind)
    (none_cleared gone end ends octets last are.1 (omega (arith, are.0, behind)))

-- a list in front is cleared
abbrev first_range : ℕ → ℕ → ℕ → List ℕ → List ℕ
first_range gone from end octets = slice_range (drop gone octets) (from - gone) (end - gone)

none_left : (gone from end : ℕ) (octets : List ℕ) → end ≤ gone → first_range gone from end octets ≡ []
none_left gone from end octets before =
    let none : (end - gone) - (from - gone) ≡ 0 = omega (arith, before) in
    ap (λ (n : ℕ). take n (drop (from - gone) (drop gone octets))) none

ends_before : (count from : ℕ) (ends : List ℕ) (last : ℕ) → AreEnds from ends last → count ≤ length ends
    → from ≤ end_of count from ends
ends_before zero from ends last are within = omega arith
ends_before (suc count) from [] last are within = omega arith
ends_before (suc count) from (end ∷ ends) last are within =
    omega (arith, are.0, ends_before count end ends last are.1 (omega (arith, within)))

some_cleared : (gone count from : ℕ) (ends octets : List ℕ) (last : ℕ) → AreEnds from ends last
    → count ≤ length ends → gone ≡ end_of count from ends
    → pieces (from - gone) (map (λ e. e - gone) ends) (drop gone octets) ≡ cleared count (pieces from ends octets)
some_cleared gone zero from ends octets last are within is =
    none_cleared gone from ends octets last are (omega (arith, is))
some_cleared gone (suc count) from [] octets last are within is = absurd (omega (arith, within))
some_cleared gone (suc count) from (end ∷ ends) octets last are within is =
    let more : count ≤ length ends = omega (arith, within) in
    ap₂ (λ (l : List ℕ) (ls : List (List ℕ)). l ∷ ls)
    (none_left gone from end octets (omega (arith, is, ends_before count end ends last are.1 more)))
    (some_cleared gone count end ends octets last are.1 more is)

end_there : (count from : ℕ) (ends : List ℕ) → count < length ends
    → end_of (suc count) from ends ≡ slice_index_or ends count 0
end_there count from [] within = absurd (omega (arith, within))
end_there zero from (end ∷ ends) within = refl
end_there (suc count) from (end ∷ ends) within = end_there count end ends (omega (arith, within))

begin_is : (count : ℕ) (ends : List ℕ) → count ≤ length ends → begin_of ends count ≡ end_of count 0 ends
begin_is zero ends within = refl
begin_is (suc count) ends within =
    let same : suc count - 1 ≡ count = omega arith in
    let some : (suc count == 0) ≡ false = grind (arith, nat_tests) in
    rw (some, same) (sym (end_there count 0 ends (omega (arith, within))))

pub are_cleared : (count : ℕ) (ends octets : List ℕ) (last : ℕ) → AreEnds 0 ends last → count ≤ length ends
    → pieces 0 (map (λ e. e - begin_of ends count) ends) (drop (begin_of ends count) octets)
    ≡ cleared count (pieces 0 ends octets)
are_cleared count ends octets last are within =
    let gone : ℕ = begin_of ends count in
    let zero_less : 0 - gone ≡ 0 = omega arith in
    ap (λ (n : ℕ). pieces n (map (λ e. e - gone) ends) (drop gone octets)) (sym zero_less)
    ∙ some_cleared gone count 0 ends octets last are within (begin_is count ends within)

-- the ends stay ends
lowered_from : (gone from : ℕ) (ends : List ℕ) (last : ℕ) → AreEnds from ends last
    → AreEnds (from - gone) (map (λ e. e - gone) ends) (last - gone)
lowered_from gone from [] last are = rw are refl
lowered_from gone from (end ∷ ends) last are =
    (omega (arith, are.0), lowered_from gone end ends last are.1)

pub ends_lowered : (gone : ℕ) (ends : List ℕ) (last : ℕ) → AreEnds 0 ends last
    → AreEnds 0 (map (λ e. e - gone) ends) (last - gone)
ends_lowered gone ends last are =
    let none : 0 - gone ≡ 0 = omega arith in
    subst (λ (n : ℕ). AreEnds n (map (λ e. e - gone) ends) (last - gone)) none (lowered_from gone 0 ends last are)

pub begins_within : (count : ℕ) (ends : List ℕ) (last : ℕ) → AreEnds 0 ends last → count ≤ length ends
    → begin_of ends count ≤ last
begins_within zero ends last are within = omega arith
begins_within (suc count) ends last are within =
    let same : suc count - 1 ≡ count = omega arith in
    let some : (suc count == 0) ≡ false = grind (arith, nat_tests) in
    rw (some, same) (end_within count 0 ends last are (omega (arith, within))).1
