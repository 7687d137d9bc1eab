-- A mux switches to a version that was published.
use Rattle.std.proofs.Common.{◌≡◌, ℕ, suc, ◌<◌, ◌≤◌, true, false, inl, inr, List, [], ◌∷◌, ◌++◌, Option, Some, None}
use Rattle.std.proofs.Common.{slice_get, length, sym, ◌∙◌, arith}
use Rattle.std.specs.Prelude.{fold}
use Rattle.std.proofs.lemmas.Bool.{cases_Bool, cases_lt}
use Rattle.std.proofs.lemmas.Bool.Decides.{nat_tests}
use Rattle.bm_core.specs.declared.schedule.Due.{Due}
use Rattle.bm_core.specs.Schedule.{comes_first, rank_of, sooner, least}
use Rattle.std.proofs.lemmas.Option.{slice_get_cases}
use Rattle.bm_table.specs.declared.plan.Change.{Change}
use Rattle.bm_core.specs.declared.schedule.Call.TheVariants.{Publishes}
use Rattle.bm_core.specs.Schedule.{Underway}
use Rattle.bm_core.specs.declared.events.Event.{Event}
use Rattle.bm_core.specs.declared.events.Stage.{Stage}
use Rattle.bm_table.specs.Tables.{next_change, change_moment, IsOrderly}
use Rattle.bm_core.specs.Past.{newest}
use Rattle.bm_core.specs.Schedule.{publish_due}
use Rattle.bm_core.specs.Schedule.{can_come}
use Rattle.bm_core.proofs.Schedules.{Each, IsAfterChange}

not_sooner : (a b c : Due) → comes_first b a ≡ true → comes_first c a ≡ false → comes_first c b ≡ false
not_sooner a b c p q = grind (arith, nat_tests)

not_itself : (a : Due) → comes_first a a ≡ false
not_itself a = grind (arith, nat_tests)

turned : (a b c : Due) → comes_first c a ≡ true → comes_first b a ≡ false → comes_first b c ≡ false
turned a b c p q = grind (arith, nat_tests)

stays_first : (xs : List Due) (a d x : Due) → fold sooner (Some a) xs ≡ Some d → comes_first x a ≡ false
    → comes_first x d ≡ false
stays_first [] a d x e h = grind arith
stays_first (y ∷ xs) a d x e h = elim (cases_Bool (comes_first y a)) [
  | inl first ↦ stays_first xs y d x (rw first at e) (not_sooner a y x first h)
  | inr later ↦ stays_first xs a d x (rw later at e) h
]

none_first : (xs : List Due) (a d : Due) → fold sooner (Some a) xs ≡ Some d → Each (λ x. comes_first x d ≡ false) xs
none_first [] a d e = tt
none_first (y ∷ xs) a d e = elim (cases_Bool (comes_first y a)) [
  | inl first ↦ (stays_first xs y d y (rw first at e) (not_itself y), none_first xs y d (rw first at e))
  | inr later ↦ (stays_first xs a d y (rw later at e) later, none_first xs a d (rw later at e))
]

-- none comes before the least
pub least_first : (xs : List Due) (d : Due) → least xs ≡ Some d → Each (λ x. comes_first x d ≡ false) xs
least_first [] d e = tt
least_first (x ∷ xs) d e = (stays_first xs x d x e (not_itself x), none_first xs x d e)

each_left : (P : Due → Type 0) (xs ys : List Due) → Each P (xs ++ ys) → Each P xs
each_left P [] ys all = tt
each_left P (x ∷ xs) ys all = (all.0, each_left P xs ys all.1)

-- none that can come, comes before the publication of the next change unless it is due before it
pub publish_first : (w : List Underway) (stage : Stage) (past : List Event) (d : Due)
    → least (can_come w stage past) ≡ Some d
    → Each (λ x. comes_first x d ≡ false) (publish_due (newest past) (next_change stage.script.plan (newest past)))
publish_first w stage past d e =
    each_left P _ _
    (each_left P _ _
    (each_left P _ _
    (each_left P _ _ (each_left P _ _ (each_left P _ _ (least_first (can_come w stage past) d e)))))) where
      P : Due → Type 0
      P x = comes_first x d ≡ false

slice_get_none : {X : Type 0} (xs : List X) (i : ℕ) → slice_get xs i ≡ None → length xs ≤ i
slice_get_none {X = X} xs i e = elim (slice_get_cases xs i).1 [
  | inl is ↦ absurd (let h : ◌≡◌ {A = Option X} None (Some is.0) = sym e ∙ is.2 in cc)
  | inr past_end ↦ past_end.0
]

-- where a switch comes next, its version was published
pub published : (stage : Stage) (past : List Event) (d : Due) (v : ℕ) → IsOrderly stage.script.plan
    → IsAfterChange stage d v
    → (o : Option Change) → next_change stage.script.plan (newest past) ≡ o
    → Each (λ x. comes_first x d ≡ false) (publish_due (newest past) o) → v ≤ newest past
published stage past d v orderly a None e first = elim (cases_lt (newest past) v) [
  | inl late ↦ absurd
      (let below : newest past < length stage.script.plan.changes =
      (let x = a.1 in let y = a.2 in omega arith) in let none =
      slice_get_none stage.script.plan.changes (newest past) e in omega arith)
  | inr done ↦ done
]
published stage past d v orderly a (Some x) e first = elim (cases_lt (newest past) v) [
  | inl late ↦
      let le : newest past ≤ a.0 = (let x = a.1 in omega arith)
      in let moments : change_moment (next_change stage.script.plan (newest past)) ≤ change_moment
      (next_change stage.script.plan a.0) = orderly.stamps (newest past) a.0 le a.2
      in let own : x.moment.0 ≤ change_moment (next_change stage.script.plan a.0) = rw e at moments
      in let due : x.moment.0 ≤ d.moment = (let y = a.3 in omega arith)
      in absurd (let rank = a.4 in let f = first.0 in before_it x.moment.0 (newest past) v d due rank f)
  | inr done ↦ done
] where
  before_it : (moment n v : ℕ) (d : Due) → moment ≤ d.moment → rank_of d.call ≡ 1
      → comes_first (record { moment = moment; number = n; call = Publishes (suc n) }) d ≡ false → ⊥
  before_it moment n v d le rank f = grind (arith, nat_tests)
