-- The least of two lists is the sooner of their leasts.
use Rattle.std.proofs.Common.{◌≡◌, inl, inr, List, [], ◌∷◌, ◌++◌, Option, Some, None, refl, sym, ap, ◌∙◌, arith}
use Rattle.std.specs.Prelude.{fold}
use Rattle.std.proofs.lemmas.Bool.{cases_Bool}
use Rattle.std.proofs.lemmas.Bool.Decides.{nat_tests}
use Rattle.bm_core.specs.declared.schedule.Due.{Due}
use Rattle.bm_core.specs.Schedule.{comes_first, least, sooner}
use Rattle.bm_replay.specs.Inside.Comings.{sooner_of}

three : (a x z : Due) → sooner_of (sooner (Some a) x) (Some z) ≡ sooner_of (Some a) (sooner (Some x) z)
three a x z = grind (arith, nat_tests)

grouped : (a x : Due) (o : Option Due) → sooner_of (sooner (Some a) x) o ≡ sooner_of (Some a) (sooner_of (Some x) o)
grouped a x None = refl
grouped a x (Some z) = three a x z

from_both : (xs : List Due) (a x : Due) → fold sooner (Some a) xs ≡ sooner_of (Some a) (least xs)
    → fold sooner (Some x) xs ≡ sooner_of (Some x) (least xs)
    → fold sooner (sooner (Some a) x) xs ≡ sooner_of (sooner (Some a) x) (least xs)
from_both xs a x by_a by_x = elim (cases_Bool (comes_first x a)) [
  | inl is ↦ rw is by_x
  | inr other ↦ rw other by_a
]

fold_from : (xs : List Due) (a : Due) → fold sooner (Some a) xs ≡ sooner_of (Some a) (least xs)
fold_from [] a = refl
fold_from (x ∷ xs) a =
    from_both xs a x (fold_from xs a) (fold_from xs x)
    ∙ (grouped a x (least xs) ∙ ap (λ (o : Option Due). sooner_of (Some a) o) (sym (fold_from xs x)))

fold_more : (o : Option Due) (ys : List Due) → fold sooner o ys ≡ sooner_of o (least ys)
fold_more (Some a) ys = fold_from ys a
fold_more None ys = none (least ys) where
  none : (o : Option Due) → o ≡ sooner_of None o
  none None = refl
  none (Some d) = refl

fold_parts : (xs ys : List Due) (o : Option Due) → fold sooner o (xs ++ ys) ≡ fold sooner (fold sooner o xs) ys
fold_parts [] ys o = refl
fold_parts (x ∷ xs) ys o = fold_parts xs ys (sooner o x)

pub least_append : (xs ys : List Due) → least (xs ++ ys) ≡ sooner_of (least xs) (least ys)
least_append xs ys = fold_parts xs ys None ∙ fold_more (least xs) ys

some_least : (a : Due) (o : Option Due) → sooner_of (Some a) o ≡ None → ⊥
some_least a None e = absurd (cc)
some_least a (Some d) e = elim (cases_Bool (comes_first d a)) [
  | inl is ↦ absurd (let bad : ◌≡◌ {A = Option Due} (Some d) None = rw is at e in cc)
  | inr other ↦ absurd (let bad : ◌≡◌ {A = Option Due} (Some a) None = rw other at e in cc)
]

-- only a list of none has no least
pub least_none : (xs : List Due) → least xs ≡ None → xs ≡ []
least_none [] e = refl
least_none (x ∷ xs) e = absurd (some_least x (least xs) (sym (fold_from xs x) ∙ e))
