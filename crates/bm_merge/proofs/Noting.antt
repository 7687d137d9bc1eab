-- Notes that are put in order by clock.
use Rattle.std.proofs.Common.{◌≡◌, ℕ, ◌+◌, ◌≤◌, max, Bool, true, false, cond, List, [], ◌∷◌, ◌++◌, refl, ap, ◌∙◌}
use Rattle.std.proofs.Common.{arith, leb}
use Rattle.std.specs.List.{AllByRecursion}
use Rattle.bm_core.specs.declared.events.What.{What}
use Rattle.bm_core.specs.declared.events.Event.{Event}
use Rattle.bm_core.specs.Accounts.{counts, fate_now, before}
use Rattle.bm_merge.specs.Merges.{place_in, by_clock, gathered}
use Rattle.bm_merge.specs.Notes.{Note, NotedLog, events_of, plain, all_notes, total, many, greatest}
use Rattle.bm_merge.proofs.Promised.{fates_of, place_note, notes_by_clock}

-- THE EVENTS OF THE NOTES

events_step : (n x : Note) (s placed : List Note) (b : Bool) → events_of placed ≡ place_in n.event (events_of s)
    → events_of (cond b (n ∷ x ∷ s) (x ∷ placed))
    ≡ cond b (n.event ∷ x.event ∷ events_of s) (x.event ∷ place_in n.event (events_of s))
events_step n x s placed true old = refl
events_step n x s placed false old = rw old refl

events_place : (n : Note) (s : List Note) → events_of (place_note n s) ≡ place_in n.event (events_of s)
events_place n [] = refl
events_place n (x ∷ s) = events_step n x s (place_note n s) (leb x.event.clock.0 n.event.clock.0) (events_place n s)

pub events_by_clock : (ns : List Note) → events_of (notes_by_clock ns) ≡ by_clock (events_of ns)
events_by_clock [] = refl
events_by_clock (n ∷ ns) =
    events_place n (notes_by_clock ns) ∙ ap (λ (l : List Event). place_in n.event l) (events_by_clock ns)

pub events_append : (x y : List Note) → events_of (x ++ y) ≡ events_of x ++ events_of y
events_append [] y = refl
events_append (n ∷ x) y = ap (λ (l : List Event). n.event ∷ l) (events_append x y)

pub events_gathered : (logs : List NotedLog) → events_of (all_notes logs) ≡ gathered (plain logs)
events_gathered [] = refl
events_gathered (l ∷ logs) =
    events_append (all_notes logs) l.notes ∙ ap (λ (y : List Event). y ++ events_of l.notes) (events_gathered logs)

pub now_of : (n : Note) (ns : List Note) → fate_now (fates_of (n ∷ ns)) ≡ n.fate
now_of n ns = refl

pub before_of : (n : Note) (ns : List Note) → before (fates_of (n ∷ ns)) ≡ fates_of ns
before_of n ns = refl

-- SUMS

total_step : (f : Note → ℕ) (n x : Note) (s placed : List Note) (b : Bool) → total f placed ≡ f n + total f s
    → total f (cond b (n ∷ x ∷ s) (x ∷ placed)) ≡ f n + (f x + total f s)
total_step f n x s placed true old = refl
total_step f n x s placed false old = omega arith

total_place : (f : Note → ℕ) (n : Note) (s : List Note) → total f (place_note n s) ≡ f n + total f s
total_place f n [] = refl
total_place f n (x ∷ s) =
    total_step f n x s (place_note n s) (leb x.event.clock.0 n.event.clock.0) (total_place f n s)

pub total_by_clock : (f : Note → ℕ) (ns : List Note) → total f (notes_by_clock ns) ≡ total f ns
total_by_clock f [] = refl
total_by_clock f (n ∷ ns) = total_place f n (notes_by_clock ns) ∙ ap (λ (k : ℕ). f n + k) (total_by_clock f ns)

pub total_append : (f : Note → ℕ) (x y : List Note) → total f (x ++ y) ≡ total f x + total f y
total_append f [] y = omega arith
total_append f (n ∷ x) y = let old : total f (x ++ y) ≡ total f x + total f y = total_append f x y in omega arith

pub total_none : (f : Note → ℕ) (x : List Note) → AllByRecursion (λ y. f y ≡ 0) x → total f x ≡ 0
total_none f [] all = refl
total_none f (n ∷ x) all = let old : total f x ≡ 0 = total_none f x all.1 in let here : f n ≡ 0 = all.0 in omega arith

pub total_most : (f g : Note → ℕ) (x : List Note) → AllByRecursion (λ y. f y ≤ g y) x → total f x ≤ total g x
total_most f g [] all = omega arith
total_most f g (n ∷ x) all =
    let old : total f x ≤ total g x = total_most f g x all.1 in let here : f n ≤ g n = all.0 in omega arith

pub total_same : (f g : Note → ℕ) (x : List Note) → AllByRecursion (λ y. f y ≡ g y) x → total f x ≡ total g x
total_same f g [] all = refl
total_same f g (n ∷ x) all =
    let old : total f x ≡ total g x = total_same f g x all.1 in let here : f n ≡ g n = all.0 in omega arith

-- what is counted among the events is counted among the notes
pub counts_notes : (test : What → Bool) (x : List Note) → counts (events_of x) test ≡ many (λ n. test n.event.what) x
counts_notes test [] = refl
counts_notes test (n ∷ x) = ap (λ (k : ℕ). cond (test n.event.what) 1 0 + k) (counts_notes test x)

-- GREATEST NUMBERS

greatest_step : (f : Note → ℕ) (n x : Note) (s placed : List Note) (b : Bool)
    → greatest f placed ≡ max (f n) (greatest f s)
    → greatest f (cond b (n ∷ x ∷ s) (x ∷ placed)) ≡ max (f n) (max (f x) (greatest f s))
greatest_step f n x s placed true old = refl
greatest_step f n x s placed false old = rw old (omega arith)

greatest_place : (f : Note → ℕ) (n : Note) (s : List Note) → greatest f (place_note n s) ≡ max (f n) (greatest f s)
greatest_place f n [] = refl
greatest_place f n (x ∷ s) =
    greatest_step f n x s (place_note n s) (leb x.event.clock.0 n.event.clock.0) (greatest_place f n s)

pub greatest_by_clock : (f : Note → ℕ) (ns : List Note) → greatest f (notes_by_clock ns) ≡ greatest f ns
greatest_by_clock f [] = refl
greatest_by_clock f (n ∷ ns) =
    greatest_place f n (notes_by_clock ns) ∙ ap (λ (k : ℕ). max (f n) k) (greatest_by_clock f ns)

pub greatest_append : (f : Note → ℕ) (x y : List Note) → greatest f (x ++ y) ≡ max (greatest f x) (greatest f y)
greatest_append f [] y = omega arith
greatest_append f (n ∷ x) y = rw (greatest_append f x y) (omega arith)

pub greatest_none : (f : Note → ℕ) (x : List Note) → AllByRecursion (λ y. f y ≡ 0) x → greatest f x ≡ 0
greatest_none f [] all = refl
greatest_none f (n ∷ x) all = rw (all.0, greatest_none f x all.1) refl

pub greatest_same : (f g : Note → ℕ) (x : List Note) → AllByRecursion (λ y. f y ≡ g y) x → greatest f x ≡ greatest g x
greatest_same f g [] all = refl
greatest_same f g (n ∷ x) all = rw (all.0, greatest_same f g x all.1) refl

-- EACH NOTE

each_step : (P : Note → Type 0) (n x : Note) (s placed : List Note) (b : Bool) → P n → AllByRecursion P (x ∷ s)
    → AllByRecursion P placed → AllByRecursion P (cond b (n ∷ x ∷ s) (x ∷ placed))
each_step P n x s placed true p ps old = (p, ps)
each_step P n x s placed false p ps old = (ps.0, old)

each_place : (P : Note → Type 0) (n : Note) (s : List Note) → P n → AllByRecursion P s
    → AllByRecursion P (place_note n s)
each_place P n [] p ps = (p, tt)
each_place P n (x ∷ s) p ps =
    each_step P n x s (place_note n s) (leb x.event.clock.0 n.event.clock.0) p ps (each_place P n s p ps.1)

pub each_by_clock : (P : Note → Type 0) (ns : List Note) → AllByRecursion P ns → AllByRecursion P (notes_by_clock ns)
each_by_clock P [] ps = tt
each_by_clock P (n ∷ ns) ps = each_place P n (notes_by_clock ns) ps.0 (each_by_clock P ns ps.1)

pub each_append : (P : Note → Type 0) (x y : List Note) → AllByRecursion P x → AllByRecursion P y
    → AllByRecursion P (x ++ y)
each_append P [] y a b = b
each_append P (n ∷ x) y a b = (a.0, each_append P x y a.1 b)

pub each_so : (P Q : Note → Type 0) (x : List Note) → ((n : Note) → P n → Q n) → AllByRecursion P x
    → AllByRecursion Q x
each_so P Q [] f ps = tt
each_so P Q (n ∷ x) f ps = (f n ps.0, each_so P Q x f ps.1)

pub each_two : (P Q S : Note → Type 0) (x : List Note) → ((n : Note) → P n → Q n → S n) → AllByRecursion P x
    → AllByRecursion Q x → AllByRecursion S x
each_two P Q S [] f ps qs = tt
each_two P Q S (n ∷ x) f ps qs = (f n ps.0 qs.0, each_two P Q S x f ps.1 qs.1)

pub each_always : (P : Note → Type 0) → ((n : Note) → P n) → (x : List Note) → AllByRecursion P x
each_always P f [] = tt
each_always P f (n ∷ x) = (f n, each_always P f x)

pub each_event : (P : Event → Type 0) (x : List Note) → AllByRecursion P (events_of x)
    → AllByRecursion (λ n. P n.event) x
each_event P [] ps = tt
each_event P (n ∷ x) ps = (ps.0, each_event P x ps.1)

pub each_middle : (P : Note → Type 0) (x past : List Note) (n : Note) → AllByRecursion P (x ++ n ∷ past) → P n
each_middle P [] past n all = all.0
each_middle P (y ∷ x) past n all = each_middle P x past n all.1

pub each_below : (P : Note → Type 0) (x past : List Note) → AllByRecursion P (x ++ past) → AllByRecursion P past
each_below P [] past all = all
each_below P (y ∷ x) past all = each_below P x past all.1

pub moved_note : (x past : List Note) (n : Note) → (x ++ n ∷ []) ++ past ≡ x ++ n ∷ past
moved_note [] past n = refl
moved_note (y ∷ x) past n = ap (λ (l : List Note). y ∷ l) (moved_note x past n)
