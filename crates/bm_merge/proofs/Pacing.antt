-- Clocks that come from earlier ones by short delays do so in the merged order.
use Rattle.std.proofs.Common.{◌≡◌, ℕ, ◌+◌, ◌<◌, ◌≤◌, Bool, true, ◌&&◌, inl, inr, List, [], ◌∷◌, ◌++◌, sym, ap, ◌∙◌}
use Rattle.std.proofs.Common.{subst, arith, ltb, eqb}
use Rattle.std.specs.Prelude.{reverse, IfSome, ◌⊎◌, ◌*◌, ◌^◌}
use Rattle.std.specs.List.{AllByRecursion}
use Rattle.std.proofs.lemmas.Bool.{and_from, eqb-true, lt-ltb}
use Rattle.std.proofs.lemmas.List.{reverse-reverse}
use Rattle.bm_core.specs.declared.events.Event.{Event}
use Rattle.bm_core.specs.declared.events.History.{History}
use Rattle.bm_core.specs.Runs.{event_at, next_clock}
use Rattle.bm_merge.specs.Merges.{Log, gathered, merged, some_event, is_clock, IsPaced, ArePaced, highest}
use Rattle.bm_merge.proofs.Placed.{IsFalling, some_by_clock, all_by_clock}
use Rattle.bm_merge.proofs.Sorting.{clock_falls}
use Rattle.bm_merge.proofs.Merging.{newer, all_middle, moved_over, lower_before, some_weaker}
use Rattle.bm_merge.proofs.Bounded.{bounded_law}

-- of the events of all logs in any order: what a clock comes from is a lower clock
pub record IsPacedAmong (events : List Event) (e : Event) : Type 0 where
  pub a : ℕ
  pub b : ℕ
  pub before : (a ≡ 0) ⊎ ((a < e.clock.0) × (is_clock events a ≡ true))
  pub moment : (b ≤ 45 * 10 ^ 17) ⊎ ((c : ℕ) × (c < e.clock.0) × (is_clock events c ≡ true) × (b ≤ c + 60000000000))
  pub clock : e.clock.0 ≤ next_clock a b

lower_clock : (x past : List Event) (e : Event) (a : ℕ) → IsFalling (λ y. y.clock.0) (x ++ e ∷ past) → a < e.clock.0
    → some_event (λ y. eqb y.clock.0 a) (x ++ e ∷ past) ≡ true → is_clock past a ≡ true
lower_clock x past e a falls low is =
    lower_before (λ y. eqb y.clock.0 a) x past e (newer (λ y. y.clock.0) x past e falls)
    (some_weaker (λ y. eqb y.clock.0 a) (λ y. eqb y.clock.0 a && ltb y.clock.0 e.clock.0) (x ++ e ∷ past)
    (λ y h. let at : y.clock.0 ≡ a = eqb-true _ _ h in and_from _ _ h (lt-ltb _ _ (omega arith))) is)

paced_here : (events x past : List Event) (e : Event) → IsFalling (λ y. y.clock.0) (x ++ e ∷ past)
    → ((test : Event → Bool) → some_event test (x ++ e ∷ past) ≡ some_event test events) → IsPacedAmong events e
    → IsPaced past e
paced_here events x past e falls some p = record {
  a = p.a;
  b = p.b;
  before =
      elim p.before
      [ inl z ↦ inl z | inr h ↦ inr (lower_clock x past e p.a falls h.0 (some (λ y. eqb y.clock.0 p.a) ∙ h.1)) ];
  moment =
      elim p.moment [
        | inl z ↦ inl z
        | inr h ↦ inr
            (h.0, lower_clock x past e h.0 falls h.1 (some (λ y. eqb y.clock.0 h.0) ∙ h.2), h.3)
      ];
  clock = p.clock;
}

paced_below : (events x past : List Event) → IsFalling (λ y. y.clock.0) (x ++ past)
    → ((test : Event → Bool) → some_event test (x ++ past) ≡ some_event test events)
    → AllByRecursion (IsPacedAmong events) (x ++ past) → ArePaced past
paced_below events x [] falls some all = tt
paced_below events x (e ∷ past) falls some all =
    let moved = sym (moved_over x past e)
    in (
      paced_here events x past e falls some (all_middle (IsPacedAmong events) x past e all),
      paced_below events (x ++ e ∷ []) past (subst (λ (l : List Event). IsFalling (λ y. y.clock.0) l) moved falls)
          (subst (λ (l : List Event). (test : Event → Bool) → some_event test l ≡ some_event test events) moved some)
          (subst (λ (l : List Event). AllByRecursion (IsPacedAmong events) l) moved all),
    )

-- where each clock comes from lower ones of the logs by a short delay, the merged clocks are bounded
pub paced_merge : (logs : List Log) → AllByRecursion (IsPacedAmong (gathered logs)) (gathered logs)
    → ArePaced (merged logs)
paced_merge logs all =
    paced_below (gathered logs) [] (merged logs) (clock_falls (gathered logs))
    (λ test. some_by_clock test (gathered logs)) (all_by_clock (IsPacedAmong (gathered logs)) (gathered logs) all)

pub bounded_logs : (h : History) (logs : List Log) (place : ℕ)
    → AllByRecursion (IsPacedAmong (gathered logs)) (gathered logs) → h.events ≡ reverse (merged logs)
    → IfSome (event_at h place) (λ e. e.clock.0 ≤ highest (place + 1))
bounded_logs h logs place all is =
    bounded_law h place
    (subst (λ (l : List Event). ArePaced l)
    (sym (ap (λ (l : List Event). reverse l) is ∙ reverse-reverse (merged logs))) (paced_merge logs all))
