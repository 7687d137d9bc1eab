-- The elements of a list by their place.
use Rattle.std.proofs.Common.{◌≡◌, ℕ, zero, suc, ◌<◌, List, [], ◌∷◌, ◌++◌, Some, None, length, refl, ap, sym, ◌∙◌, take}
use Rattle.std.proofs.Common.{drop, arith}
use Rattle.std.proofs.Math.ListN.{set}
use Rattle.std.proofs.lemmas.List.{take_at}
use Rattle.std.specs.List.{slice_get}
use Rattle.std.specs.Option.{option_map}

pub slice_get-set_same : {X : Type 0} (xs : List X) (i : ℕ) (y : X) → i < length xs → slice_get (set xs i y) i ≡ Some y
slice_get-set_same [] i y h = absurd (omega arith)
slice_get-set_same (x ∷ xs) zero y h = refl
slice_get-set_same (x ∷ xs) (suc i) y h = slice_get-set_same xs i y (omega arith)

pub slice_get-set_other : {X : Type 0} (xs : List X) (i j : ℕ) (y : X) → (i ≡ j → ⊥)
    → slice_get (set xs i y) j ≡ slice_get xs j
slice_get-set_other [] i j y h = refl
slice_get-set_other (x ∷ xs) zero zero y h = absurd (h refl)
slice_get-set_other (x ∷ xs) zero (suc j) y h = refl
slice_get-set_other (x ∷ xs) (suc i) zero y h = refl
slice_get-set_other (x ∷ xs) (suc i) (suc j) y h = slice_get-set_other xs i j y (λ e. h (omega arith))

pub slice_get-append_left : {X : Type 0} (xs ys : List X) (i : ℕ) → i < length xs
    → slice_get (xs ++ ys) i ≡ slice_get xs i
slice_get-append_left [] ys i h = absurd (omega arith)
slice_get-append_left (x ∷ xs) ys zero h = refl
slice_get-append_left (x ∷ xs) ys (suc i) h = slice_get-append_left xs ys i (omega arith)

pub slice_get-push : {X : Type 0} (xs : List X) (y : X) → slice_get (xs ++ y ∷ []) (length xs) ≡ Some y
slice_get-push [] y = refl
slice_get-push (x ∷ xs) y = slice_get-push xs y

-- where one list has an element exactly where another has one, they are as long
pub length_from_gets : {X : Type 0} (f : ℕ → X → X) (xs ys : List X)
    → ((b : ℕ) → slice_get ys b ≡ option_map (f b) (slice_get xs b)) → length ys ≡ length xs
length_from_gets f [] [] h = refl
length_from_gets f [] (y ∷ ys) h = let e : Some y ≡ None = h 0 in absurd (cc)
length_from_gets f (x ∷ xs) [] h = let e : None ≡ Some (f 0 x) = h 0 in absurd (cc)
length_from_gets f (x ∷ xs) (y ∷ ys) h = ap suc (length_from_gets (λ b. f (suc b)) xs ys (λ b. h (suc b)))

-- a list that was lent whole, written and given back
pub given_back : {X : Type 0} (old new : List X) (n : ℕ) → length new ≡ length old → n ≡ length old
    → take n (new ++ drop (length new) old) ≡ new
given_back old new n h l = take_at new (drop (length new) old) n (h ∙ sym l)
