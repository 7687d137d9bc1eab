-- Clocks that come from earlier ones by short delays are bounded by the number of events.
use Rattle.std.proofs.Common.{◌≡◌, ℕ, zero, suc, ◌+◌, ◌≤◌, true, inl, inr, List, [], ◌∷◌, length}
use Rattle.std.proofs.Common.{Option, Some, None, refl, subst, arith, eqb}
use Rattle.std.specs.Prelude.{slice_get, IfSome, reverse}
use mathlib.Core.List.{reverse_aux}
use Rattle.std.proofs.lemmas.Bool.{or_cases, eqb-true}
use Rattle.std.proofs.lemmas.Option.{same_Some}
use Rattle.bm_core.specs.declared.events.Event.{Event}
use Rattle.bm_core.specs.declared.events.History.{History}
use Rattle.bm_core.specs.Runs.{event_at, next_clock}
use Rattle.bm_merge.specs.Merges.{AtEach, is_clock, IsPaced, ArePaced, highest}

-- what bounds each of two sources bounds the clock
from_sources : (n a b k : ℕ) → a ≤ highest n → b ≤ highest n + 60000000000 → k ≤ next_clock a b → k ≤ highest (suc n)
from_sources n a b k x y z = omega arith

paced_most : (past : List Event) (e : Event) → ((c : ℕ) → is_clock past c ≡ true → c ≤ highest (length past))
    → IsPaced past e → e.clock.0 ≤ highest (suc (length past))
paced_most past e old paced =
    from_sources (length past) paced.a paced.b e.clock.0
    (elim paced.before [ inl z ↦ omega arith | inr h ↦ old paced.a h ])
    (elim paced.moment [
      | inl m ↦ omega arith
      | inr m ↦ let c : m.0 ≤ highest (length past) = old m.0 m.1 in let d : paced.b
          ≤ m.0 + 60000000000 = m.2 in omega arith
    ])
    paced.clock

-- no clock is above the bound
clocks_most : (past : List Event) → ArePaced past → (c : ℕ) → is_clock past c ≡ true → c ≤ highest (length past)
clocks_most [] paced c h = absurd (cc)
clocks_most (e ∷ past) paced c h = elim (or_cases (eqb e.clock.0 c) (is_clock past c) h) [
  | inl a ↦
      let most : e.clock.0 ≤ highest (suc (length past)) = paced_most past e (clocks_most past paced.1) paced.0
      in let is : e.clock.0 ≡ c = eqb-true _ _ a
      in omega arith
  | inr b ↦ let most : c ≤ highest (length past) = clocks_most past paced.1 c b in omega arith
]

older : (P : List Event → Event → Type 0) (newer past : List Event) → AtEach P (reverse_aux newer past)
    → AtEach P past
older P [] past each = each
older P (x ∷ newer) past each = (older P newer (x ∷ past) each).1

bounded_from : (events past : List Event) (place : ℕ) (e : Event) → ArePaced (reverse_aux events past)
    → slice_get events place ≡ Some e → e.clock.0 ≤ highest (length past + (place + 1))
bounded_from [] past place e paced is = absurd (cc)
bounded_from (x ∷ events) past zero e paced is =
    let here : ArePaced (x ∷ past) = older IsPaced events (x ∷ past) paced
    in let most : x.clock.0 ≤ highest (suc (length past)) = paced_most past x (clocks_most past here.1) here.0
    in subst (λ (y : Event). y.clock.0 ≤ highest (length past + (0 + 1))) (same_Some _ _ is) (omega arith)
bounded_from (x ∷ events) past (suc place) e paced is =
    let most : e.clock.0 ≤ highest (suc (length past) + (place + 1)) = bounded_from events (x ∷ past) place e paced is
    in omega arith

pub bounded_law : (h : History) (place : ℕ) → ArePaced (reverse h.events)
    → IfSome (event_at h place) (λ e. e.clock.0 ≤ highest (place + 1))
bounded_law h place paced = go (event_at h place) refl where
  go : (o : Option Event) → event_at h place ≡ o → IfSome o (λ e. e.clock.0 ≤ highest (place + 1))
  go None is = tt
  go (Some e) is =
      let most : e.clock.0 ≤ highest (0 + (place + 1)) = bounded_from h.events [] place e paced is in omega arith
