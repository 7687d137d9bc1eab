-- A stable sort by clock gives the merged order.
use Rattle.std.proofs.Common.{◌≡◌, ℕ, suc, ◌<◌, ◌≤◌, Bool, true, false, cond, ◌&&◌, not, List, [], ◌∷◌, ◌++◌, length}
use Rattle.std.proofs.Common.{get_or, refl, sym, ap, ◌∙◌, arith, leb, eqb}
use Rattle.std.specs.Prelude.{filter, reverse}
use Rattle.std.specs.List.{AllByRecursion}
use Rattle.std.specs.List.Sorted.{IsNonDecreasingBy, IsStableByKey}
use Rattle.std.specs.Ordering.{is_lt, nat_cmp}
use mathlib.Core.List.{reverse_aux}
use Rattle.std.proofs.lemmas.Bool.{leb-true, leb-false, eqb-true, eq-eqb}
use Rattle.std.proofs.lemmas.Bool.Decides.{nat_tests}
use Rattle.std.proofs.lemmas.List.{reverse-reverse}
use Rattle.bm_core.specs.declared.events.Event.{Event}
use Rattle.bm_core.specs.declared.events.What.TheVariants.{Sync}
use Rattle.bm_merge.specs.Merges.{place_in, by_clock}
use Rattle.bm_merge.proofs.Placed.{IsFalling, all_place, all_so}

-- THE EVENTS OF ONE CLOCK

abbrev pub of_clock : ℕ → List Event → List Event
of_clock c [] = []
of_clock c (e ∷ events) = cond (eqb e.clock.0 c) (e ∷ of_clock c events) (of_clock c events)

of_step : (c : ℕ) (e x : Event) (s placed : List Event) (b mine his : Bool) → leb x.clock.0 e.clock.0 ≡ b
    → eqb e.clock.0 c ≡ mine → eqb x.clock.0 c ≡ his
    → of_clock c placed ≡ cond mine (e ∷ of_clock c s) (of_clock c s)
    → of_clock c (cond b (e ∷ x ∷ s) (x ∷ placed))
    ≡ cond mine (e ∷ cond his (x ∷ of_clock c s) (of_clock c s)) (cond his (x ∷ of_clock c s) (of_clock c s))
of_step c e x s placed true mine his is own other old = rw (own, other) refl
of_step c e x s placed false true true is own other old =
    let a : e.clock.0 ≡ c = eqb-true _ _ own
    in let b : x.clock.0 ≡ c = eqb-true _ _ other
    in let d : e.clock.0 < x.clock.0 = leb-false _ _ is
    in absurd (omega arith)
of_step c e x s placed false true false is own other old = rw other old
of_step c e x s placed false false true is own other old = rw (other, old) refl
of_step c e x s placed false false false is own other old = rw other old

of_place : (c : ℕ) (e : Event) (s : List Event) → of_clock c (place_in e s) ≡ of_clock c (e ∷ s)
of_place c e [] = refl
of_place c e (x ∷ s) =
    of_step c e x s (place_in e s) (leb x.clock.0 e.clock.0) (eqb e.clock.0 c) (eqb x.clock.0 c) refl refl refl
    (of_place c e s)

-- putting events in order leaves those of one clock in their order
pub of_by_clock : (c : ℕ) (es : List Event) → of_clock c (by_clock es) ≡ of_clock c es
of_by_clock c [] = refl
of_by_clock c (e ∷ es) =
    of_place c e (by_clock es) ∙ ap (λ (l : List Event). cond (eqb e.clock.0 c) (e ∷ l) l) (of_by_clock c es)

-- THE ORDER

clock_step : (e x : Event) (s : List Event) (b : Bool) → leb x.clock.0 e.clock.0 ≡ b
    → IsFalling (λ y. y.clock.0) (x ∷ s) → IsFalling (λ y. y.clock.0) (place_in e s)
    → IsFalling (λ y. y.clock.0) (cond b (e ∷ x ∷ s) (x ∷ place_in e s))
clock_step e x s true is falls old =
    let under : x.clock.0 ≤ e.clock.0 = leb-true _ _ is
    in (
      (under, all_so (λ y. y.clock.0 ≤ x.clock.0) (λ y. y.clock.0 ≤ e.clock.0) s (λ y h. omega arith) falls.0),
      falls,
    )
clock_step e x s false is falls old =
    let over : e.clock.0 < x.clock.0 = leb-false _ _ is
    in (all_place (λ y. y.clock.0 ≤ x.clock.0) e s (omega arith) falls.0, old)

clock_place : (e : Event) (s : List Event) → IsFalling (λ y. y.clock.0) s → IsFalling (λ y. y.clock.0) (place_in e s)
clock_place e [] falls = (tt, tt)
clock_place e (x ∷ s) falls = clock_step e x s (leb x.clock.0 e.clock.0) refl falls (clock_place e s falls.1)

pub clock_falls : (es : List Event) → IsFalling (λ y. y.clock.0) (by_clock es)
clock_falls [] = tt
clock_falls (e ∷ es) = clock_place e (by_clock es) (clock_falls es)

-- THERE IS ONE SUCH ORDER

abbrev head_or : Event → List Event → Event
head_or d [] = d
head_or d (x ∷ xs) = x

abbrev rest_of : List Event → List Event
rest_of [] = []
rest_of (x ∷ xs) = xs

within_step : (c n : ℕ) (y : Event) (s zs : List Event) (z : Event) (mine : Bool) → eqb y.clock.0 c ≡ mine
    → y.clock.0 ≤ n → (of_clock c s ≡ z ∷ zs → c ≤ n) → cond mine (y ∷ of_clock c s) (of_clock c s) ≡ z ∷ zs → c ≤ n
within_step c n y s zs z true is under old h = let at : y.clock.0 ≡ c = eqb-true _ _ is in omega arith
within_step c n y s zs z false is under old h = old h

-- a clock that some event has is within the bound
within : (c n : ℕ) (s zs : List Event) (z : Event) → AllByRecursion (λ y. y.clock.0 ≤ n) s → of_clock c s ≡ z ∷ zs
    → c ≤ n
within c n [] zs z under h = absurd (cc)
within c n (y ∷ s) zs z under h =
    within_step c n y s zs z (eqb y.clock.0 c) refl under.0 (within c n s zs z under.1) h

own_clock_first : (e : Event) (s : List Event) → of_clock e.clock.0 (e ∷ s) ≡ e ∷ of_clock e.clock.0 s
own_clock_first e s = let is : eqb e.clock.0 e.clock.0 ≡ true = eq-eqb _ _ refl in rw is refl

top_within : (e : Event) (s : List Event) → IsFalling (λ y. y.clock.0) (e ∷ s)
    → AllByRecursion (λ y. y.clock.0 ≤ e.clock.0) (e ∷ s)
top_within e s falls = (omega arith, falls.0)

rest_step : (c : ℕ) (d : Event) (x y : List Event) (mine : Bool)
    → cond mine (d ∷ of_clock c x) (of_clock c x) ≡ cond mine (d ∷ of_clock c y) (of_clock c y)
    → of_clock c x ≡ of_clock c y
rest_step c d x y true h = ap (λ (l : List Event). rest_of l) h
rest_step c d x y false h = h

one_order_step : (d e : Event) (x y : List Event) → IsFalling (λ z. z.clock.0) (d ∷ x)
    → IsFalling (λ z. z.clock.0) (e ∷ y) → ((c : ℕ) → of_clock c (d ∷ x) ≡ of_clock c (e ∷ y)) → d ≡ e
one_order_step d e x y a b same =
    let left : of_clock d.clock.0 (e ∷ y) ≡ d ∷ of_clock d.clock.0 x = sym (same d.clock.0) ∙ own_clock_first d x
    in let right : of_clock e.clock.0 (d ∷ x) ≡ e ∷ of_clock e.clock.0 y = same e.clock.0 ∙ own_clock_first e y
    in let low : d.clock.0 ≤ e.clock.0 =
    within d.clock.0 e.clock.0 (e ∷ y) (of_clock d.clock.0 x) d (top_within e y b) left
    in let high : e.clock.0 ≤ d.clock.0 =
    within e.clock.0 d.clock.0 (d ∷ x) (of_clock e.clock.0 y) e (top_within d x a) right
    in let at : e.clock.0 ≡ d.clock.0 = omega arith
    in let is : eqb e.clock.0 d.clock.0 ≡ true = eq-eqb _ _ at
    in ap (λ (l : List Event). head_or d l) (sym left)
    ∙ ap (λ (t : Bool). head_or d (cond t (e ∷ of_clock d.clock.0 y) (of_clock d.clock.0 y))) is

pub one_order : (x y : List Event) → IsFalling (λ z. z.clock.0) x → IsFalling (λ z. z.clock.0) y
    → ((c : ℕ) → of_clock c x ≡ of_clock c y) → x ≡ y
one_order [] [] a b same = refl
one_order [] (e ∷ y) a b same =
    let h : [] ≡ e ∷ of_clock e.clock.0 y = same e.clock.0 ∙ own_clock_first e y in absurd (cc)
one_order (d ∷ x) [] a b same =
    let h : [] ≡ d ∷ of_clock d.clock.0 x = sym (same d.clock.0) ∙ own_clock_first d x in absurd (cc)
one_order (d ∷ x) (e ∷ y) a b same =
    let head : d ≡ e = one_order_step d e x y a b same
    in let rest : x ≡ y =
    one_order x y a.1 b.1
    (λ c. rest_step c d x y (eqb d.clock.0 c) (same c ∙ ap (λ (z : Event). of_clock c (z ∷ y)) (sym head)))
    in ap (λ (z : Event). z ∷ x) head ∙ ap (λ (l : List Event). e ∷ l) rest

-- WHAT A STABLE SORT ENSURES

all_index : (P : Event → Type 0) (xs : List Event) → ((j : ℕ) (d : Event) → j < length xs → P (get_or xs j d))
    → AllByRecursion P xs
all_index P [] h = tt
all_index P (x ∷ xs) h = (h 0 x (omega arith), all_index P xs (λ j d lt. h (suc j) d (omega arith)))

all_both : (P Q : Event → Type 0) (xs : List Event) → AllByRecursion P xs → AllByRecursion Q xs
    → AllByRecursion (λ x. P x × Q x) xs
all_both P Q [] p q = tt
all_both P Q (x ∷ xs) p q = ((p.0, q.0), all_both P Q xs p.1 q.1)

falls_onto : (ys acc : List Event) → IsNonDecreasingBy (λ (e : Event). e.clock.0) ys → IsFalling (λ e. e.clock.0) acc
    → AllByRecursion (λ y. AllByRecursion (λ a. a.clock.0 ≤ y.clock.0) acc) ys
    → IsFalling (λ e. e.clock.0) (reverse_aux ys acc)
falls_onto [] acc up falls over = falls
falls_onto (y ∷ ys) acc up falls over =
    falls_onto ys (y ∷ acc) (λ i j d le lt. up (suc i) (suc j) d (omega arith) (omega arith)) (over.0, falls)
    (all_both (λ z. y.clock.0 ≤ z.clock.0) (λ z. AllByRecursion (λ a. a.clock.0 ≤ z.clock.0) acc) ys
    (all_index (λ z. y.clock.0 ≤ z.clock.0) ys (λ j d lt. up 0 (suc j) d (omega arith) (omega arith))) over.1)

none_over : (ys : List Event) → AllByRecursion (λ y. AllByRecursion (λ (a : Event). a.clock.0 ≤ y.clock.0) []) ys
none_over [] = tt
none_over (y ∷ ys) = (tt, none_over ys)

tie : (c k : ℕ) → (not (is_lt (nat_cmp c k)) && not (is_lt (nat_cmp k c))) ≡ eqb k c
tie c k = grind (arith, nat_tests)

tied : (c : ℕ) (xs : List Event)
    → filter (λ (y : Event). not (is_lt (nat_cmp c y.clock.0)) && not (is_lt (nat_cmp y.clock.0 c))) xs
    ≡ of_clock c xs
tied c [] = refl
tied c (x ∷ xs) = rw (tie c x.clock.0, tied c xs) refl

pub of_append : (c : ℕ) (x y : List Event) → of_clock c (x ++ y) ≡ of_clock c x ++ of_clock c y
of_append c [] y = refl
of_append c (e ∷ x) y = step (eqb e.clock.0 c) (of_append c x y) where
  step : (mine : Bool) → of_clock c (x ++ y) ≡ of_clock c x ++ of_clock c y
      → cond mine (e ∷ of_clock c (x ++ y)) (of_clock c (x ++ y))
      ≡ cond mine (e ∷ of_clock c x) (of_clock c x) ++ of_clock c y
  step true h = ap (λ (l : List Event). e ∷ l) h
  step false h = h

onto_step : (c : ℕ) (e : Event) (x acc : List Event) (mine : Bool) → eqb e.clock.0 c ≡ mine
    → reverse_aux (of_clock c x) (of_clock c (e ∷ acc))
    ≡ reverse_aux (cond mine (e ∷ of_clock c x) (of_clock c x)) (of_clock c acc)
onto_step c e x acc true is = rw is refl
onto_step c e x acc false is = rw is refl

of_reverse_onto : (c : ℕ) (x acc : List Event)
    → of_clock c (reverse_aux x acc) ≡ reverse_aux (of_clock c x) (of_clock c acc)
of_reverse_onto c [] acc = refl
of_reverse_onto c (e ∷ x) acc = of_reverse_onto c x (e ∷ acc) ∙ onto_step c e x acc (eqb e.clock.0 c) refl

pub of_reverse : (c : ℕ) (x : List Event) → of_clock c (reverse x) ≡ reverse (of_clock c x)
of_reverse c x = of_reverse_onto c x []

-- a stable sort by clock of events, the oldest first, puts them in the merged order
pub sorted_merged : (xs ys : List Event) → IsNonDecreasingBy (λ (e : Event). e.clock.0) ys
    → IsStableByKey (λ (e : Event). e.clock.0) nat_cmp xs ys → ys ≡ reverse (by_clock (reverse xs))
sorted_merged xs ys up stable =
    let same : (c : ℕ) → of_clock c ys ≡ of_clock c xs =
    λ c. sym (tied c ys) ∙ stable (record { clock = record { 0 = c }; what = Sync }) ∙ tied c xs
    in let turned : reverse ys ≡ by_clock (reverse xs) =
    one_order (reverse ys) (by_clock (reverse xs)) (falls_onto ys [] up tt (none_over ys)) (clock_falls (reverse xs))
    (λ c. of_reverse c ys ∙ ap (λ (l : List Event). reverse l) (same c) ∙ sym (of_reverse c xs)
    ∙ sym (of_by_clock c (reverse xs)))
    in sym (reverse-reverse ys) ∙ ap (λ (l : List Event). reverse l) turned
