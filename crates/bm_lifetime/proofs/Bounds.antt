-- The least of bounds, and the spans of the moves of a bucket.
use Rattle.std.proofs.Common.{◌≡◌, ℕ, zero, suc, ◌+◌, ◌-◌, ◌<◌, ◌≤◌, Bool, true, ◌&&◌, inl, inr, List, []}
use Rattle.std.proofs.Common.{◌∷◌, ◌++◌, Option, Some, None, is_some, length, map, refl, ap, sym, subst, ◌∙◌, append-nil, arith, ltb}
use Rattle.std.specs.Prelude.{IfSome, IsSomeAnd, flat_map, slice_get}
use Rattle.std.specs.List.{range_with_len}
use Rattle.std.proofs.lemmas.Bool.{cases_Bool, cases_lt}
use Rattle.std.proofs.lemmas.Grind.{flat_map-append}
use Rattle.std.proofs.lemmas.Option.{same_Some}
use Rattle.bm_table.specs.declared.plan.Change.{Change}
use Rattle.bm_table.specs.declared.script.Script.{Script}
use Rattle.bm_table.specs.Tables.{change_moment, target}
use Rattle.bm_lifetime.specs.declared.seen.Moved.{Moved}
use Rattle.bm_lifetime.specs.Lifetime.{bounds_by, bounds_of, least, lesser, lifetime_of, moves_from, spans}

-- there is a bound, and it is no more than this
abbrev pub IsBy : Option ℕ → ℕ → Type 0
IsBy o most = IsSomeAnd o (λ l. l ≤ most)

-- what stays within it
pub bounded : (o : Option ℕ) (most x y : ℕ) → IsBy o most → IfSome o (λ l. x ≤ y + l) → x ≤ y + most
bounded None most x y by age = absurd by
bounded (Some l) most x y by age = omega (arith, by, age)

pub lesser_left : (a b : Option ℕ) (most : ℕ) → IsBy a most → IsBy (lesser a b) most
lesser_left None b most by = absurd by
lesser_left (Some a) None most by = by
lesser_left (Some a) (Some b) most by = omega (arith, by)

pub lesser_right : (a b : Option ℕ) (most : ℕ) → IsBy b most → IsBy (lesser a b) most
lesser_right None b most by = by
lesser_right (Some a) None most by = absurd by
lesser_right (Some a) (Some b) most by = omega (arith, by)

pub lesser_assoc : (a b c : Option ℕ) → lesser (lesser a b) c ≡ lesser a (lesser b c)
lesser_assoc None b c = refl
lesser_assoc (Some a) None c = refl
lesser_assoc (Some a) (Some b) None = refl
lesser_assoc (Some a) (Some b) (Some c) = ap (λ (n : ℕ). Some n) (omega arith)

-- the least of two lists
pub least-append : (xs ys : List ℕ) → least (xs ++ ys) ≡ lesser (least xs) (least ys)
least-append [] ys = refl
least-append (x ∷ xs) ys =
    ap (lesser (Some x)) (least-append xs ys) ∙ sym (lesser_assoc (Some x) (least xs) (least ys))

-- BUCKET BY BUCKET

range_last : (a n : ℕ) → range_with_len a (suc n) ≡ range_with_len a n ++ (a + n) ∷ []
range_last a zero = let e : a ≡ a + 0 = omega arith in ap (λ x. x ∷ []) e
range_last a (suc n) =
    let e : a + 1 + n ≡ a + suc n = omega arith
    in ap (λ l. a ∷ l) (range_last (a + 1) n ∙ ap (λ x. range_with_len (a + 1) n ++ x ∷ []) e)

-- the first n buckets, with one more
pub one_more : (n : ℕ) → range_with_len 0 (suc n) ≡ range_with_len 0 n ++ n ∷ []
one_more n =
    let e : 0 + n ≡ n = omega arith
    in range_last 0 n ∙ ap (λ x. range_with_len 0 n ++ x ∷ []) e

pub flat_more : (f : ℕ → List ℕ) (n : ℕ)
    → flat_map f (range_with_len 0 (suc n)) ≡ flat_map f (range_with_len 0 n) ++ f n
flat_more f n =
    ap (flat_map f) (one_more n)
    ∙ (flat_map-append f (range_with_len 0 n) (n ∷ []) ∙ ap (λ l. flat_map f (range_with_len 0 n) ++ l) (append-nil (f n)))

-- the least of all bounds is no more than that of one bucket
pub least_by : (script : Script) (b n most : ℕ) → b < n → IsBy (lifetime_of script b) most
    → IsBy (least (flat_map (bounds_of script) (range_with_len 0 n))) most
least_by script b zero most below by = absurd (omega arith)
least_by script b (suc n) most below by =
    rw (flat_more (bounds_of script) n, least-append (flat_map (bounds_of script) (range_with_len 0 n)) (bounds_of script n))
    (elim (cases_lt b n) [
      | inl under ↦
          lesser_left (least (flat_map (bounds_of script) (range_with_len 0 n))) (lifetime_of script n) most
          (least_by script b n most under by)
      | inr over ↦
          let same : b ≡ n = omega arith
          in lesser_right (least (flat_map (bounds_of script) (range_with_len 0 n))) (lifetime_of script n) most
          (subst (λ (x : ℕ). IsBy (lifetime_of script x) most) same by)
    ])

-- THE MOVES OF A BUCKET

-- the change moves the bucket, and packets may come before it
abbrev pub moves_it : ℕ → ℕ → Change → Bool
moves_it lag b c = is_some (target c.moves b) && ltb 0 (c.moment.0 + lag)

abbrev pub AreStamped : List Change → Type 0
AreStamped changes =
    (v w : ℕ) → v ≤ w → w < length changes
    → change_moment (slice_get changes v) ≤ change_moment (slice_get changes w)

stamped_rest : (c : Change) (changes : List Change) → AreStamped (c ∷ changes) → AreStamped changes
stamped_rest c changes stamped v w le below = stamped (suc v) (suc w) (omega arith) (omega arith)

-- one of these changes moves the bucket
pub record IsMoveAt (lag b i : ℕ) (changes : List Change) : Type 0 where
  pub below : i < length changes
  pub change : Change
  pub is_change : slice_get changes i ≡ Some change
  pub moves : moves_it lag b change ≡ true

move_rest : (lag b i : ℕ) (c : Change) (changes : List Change) → IsMoveAt lag b (suc i) (c ∷ changes)
    → IsMoveAt lag b i changes
move_rest lag b i c changes m =
    record { below = (let h = m.below in omega arith); change = m.change; is_change = m.is_change; moves = m.moves }

move_here : (lag b : ℕ) (c : Change) (changes : List Change) → IsMoveAt lag b 0 (c ∷ changes)
    → moves_it lag b c ≡ true
move_here lag b c changes m =
    subst (λ (x : Change). moves_it lag b x ≡ true) (sym (same_Some _ _ m.is_change)) m.moves

-- the first of these is there, and its moment no more than this
abbrev pub FirstBy : List Moved → ℕ → Type 0
FirstBy [] top = ⊥
FirstBy (x ∷ xs) top = x.moment ≤ top

abbrev pub SecondBy : List Moved → ℕ → Type 0
SecondBy [] top = ⊥
SecondBy (x ∷ xs) top = FirstBy xs top

first_by : (lag b n i : ℕ) (changes : List Change) → AreStamped changes → IsMoveAt lag b i changes
    → FirstBy (moves_from lag b n changes) (change_moment (slice_get changes i))
first_by lag b n i [] stamped m = absurd (let h = m.below in omega arith)
first_by lag b n zero (c ∷ changes) stamped m = rw (move_here lag b c changes m) (omega arith)
first_by lag b n (suc i) (c ∷ changes) stamped m = elim (cases_Bool (moves_it lag b c)) [
  | inl here ↦ rw here (stamped 0 (suc i) (omega arith) m.below)
  | inr other ↦ rw other
      (first_by lag b (suc n) i changes (stamped_rest c changes stamped) (move_rest lag b i c changes m))
]

second_by : (lag b n i j : ℕ) (changes : List Change) → i < j → AreStamped changes → IsMoveAt lag b i changes
    → IsMoveAt lag b j changes → SecondBy (moves_from lag b n changes) (change_moment (slice_get changes j))
second_by lag b n i j [] order stamped m o = absurd (let h = m.below in omega arith)
second_by lag b n i zero (c ∷ changes) order stamped m o = absurd (omega arith)
second_by lag b n zero (suc j) (c ∷ changes) order stamped m o =
    rw (move_here lag b c changes m)
    (first_by lag b (suc n) j changes (stamped_rest c changes stamped) (move_rest lag b j c changes o))
second_by lag b n (suc i) (suc j) (c ∷ changes) order stamped m o = elim (cases_Bool (moves_it lag b c)) [
  | inl here ↦ rw here
      (first_by lag b (suc n) j changes (stamped_rest c changes stamped) (move_rest lag b j c changes o))
  | inr other ↦ rw other
      (second_by lag b (suc n) i j changes (omega arith) (stamped_rest c changes stamped)
      (move_rest lag b i c changes m) (move_rest lag b j c changes o))
]

-- the times from each of these moves to the second after it
abbrev pub times : List Moved → List ℕ
times moves = map (λ s. s.time) (spans moves)

span_by : (x : Moved) (top : ℕ) (moves : List Moved) → SecondBy moves top
    → IsBy (least (times (x ∷ moves))) (top - x.moment)
span_by x top [] second = absurd second
span_by x top (y ∷ []) second = absurd second
span_by x top (y ∷ z ∷ moves) second =
    lesser_left (Some (z.moment - x.moment)) (least (times (y ∷ z ∷ moves))) (top - x.moment) (omega (arith, second))

later_by : (x : Moved) (top : ℕ) (moves : List Moved) → IsBy (least (times moves)) top
    → IsBy (least (times (x ∷ moves))) top
later_by x top [] by = absurd by
later_by x top (y ∷ []) by = absurd by
later_by x top (y ∷ z ∷ moves) by =
    lesser_right (Some (z.moment - x.moment)) (least (times (y ∷ z ∷ moves))) top by

-- from one move to the second after it is no longer than to any later one but the next
pub third_by : (lag b n i j k : ℕ) (changes : List Change) → i < j → j < k → AreStamped changes
    → IsMoveAt lag b i changes → IsMoveAt lag b j changes → IsMoveAt lag b k changes
    → IsBy (least (times (moves_from lag b n changes)))
    (change_moment (slice_get changes k) - change_moment (slice_get changes i))
third_by lag b n i j k [] ij jk stamped m o p = absurd (let h = m.below in omega arith)
third_by lag b n i zero k (c ∷ changes) ij jk stamped m o p = absurd (omega arith)
third_by lag b n i j zero (c ∷ changes) ij jk stamped m o p = absurd (omega arith)
third_by lag b n zero (suc j) (suc k) (c ∷ changes) ij jk stamped m o p =
    let rest = stamped_rest c changes stamped
    in let second =
    second_by lag b (suc n) j k changes (omega arith) rest (move_rest lag b j c changes o) (move_rest lag b k c changes p)
    in rw (move_here lag b c changes m)
    (span_by (record { change = n; moment = c.moment.0 }) (change_moment (slice_get changes k))
    (moves_from lag b (suc n) changes) second)
third_by lag b n (suc i) (suc j) (suc k) (c ∷ changes) ij jk stamped m o p =
    let old =
    third_by lag b (suc n) i j k changes (omega arith) (omega arith) (stamped_rest c changes stamped)
    (move_rest lag b i c changes m) (move_rest lag b j c changes o) (move_rest lag b k c changes p)
    in elim (cases_Bool (moves_it lag b c)) [
      | inl here ↦ rw here
          (later_by (record { change = n; moment = c.moment.0 })
          (change_moment (slice_get changes k) - change_moment (slice_get changes i))
          (moves_from lag b (suc n) changes) old)
      | inr other ↦ rw other old
    ]

within_span : (most : ℕ) (moves : List Moved) (top : ℕ) → IsBy (least (times moves)) top
    → IsBy (least (bounds_by most moves)) top
within_span most [] top by = absurd by
within_span most (x ∷ moves) top by = lesser_right (Some most) (least (times (x ∷ moves))) top by

within_most : (most : ℕ) (moves : List Moved) (top : ℕ) → FirstBy moves top → IsBy (least (bounds_by most moves)) most
within_most most [] top there = absurd there
within_most most (x ∷ moves) top there =
    lesser_left (Some most) (least (times (x ∷ moves))) most (omega arith)

-- where a change moves the bucket, a connection lives no longer than this
pub moved_by : (lag b n i most : ℕ) (changes : List Change) → AreStamped changes → IsMoveAt lag b i changes
    → IsBy (least (bounds_by most (moves_from lag b n changes))) most
moved_by lag b n i most changes stamped m =
    within_most most (moves_from lag b n changes) _ (first_by lag b n i changes stamped m)

-- where three do, no longer than from the first to the third
pub thrice_by : (lag b n i j k most : ℕ) (changes : List Change) → i < j → j < k → AreStamped changes
    → IsMoveAt lag b i changes → IsMoveAt lag b j changes → IsMoveAt lag b k changes
    → IsBy (least (bounds_by most (moves_from lag b n changes)))
    (change_moment (slice_get changes k) - change_moment (slice_get changes i))
thrice_by lag b n i j k most changes ij jk stamped m o p =
    within_span most (moves_from lag b n changes) _ (third_by lag b n i j k changes ij jk stamped m o p)
