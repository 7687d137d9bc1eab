-- Logs that are cut in two at a clock. Only the proofs of bodies use this.
use Rattle.std.specs.Prelude.{◌≡◌, ◌<◌, ◌≤◌, ℕ, List, [], ◌∷◌, ◌++◌}
use Rattle.std.specs.List.{AllByRecursion}
use Rattle.bm_core.specs.declared.events.Event.{Event}

-- the clocks of a first part are below this clock, and those of the rest aren't
abbrev pub IsCutAt : ℕ → List Event → List Event → Type 0
IsCutAt clock low high =
    AllByRecursion (λ e. e.clock.0 < clock) low × AllByRecursion (λ e. clock ≤ e.clock.0) high

-- each log is cut in two at this clock
abbrev pub AreHalves : ℕ → List (List Event) → List (List Event) → List (List Event) → Type 0
AreHalves clock [] [] [] = Unit {0}
AreHalves clock (log ∷ logs) (l ∷ low) (h ∷ high) =
    (log ≡ l ++ h) × IsCutAt clock l h × AreHalves clock logs low high
AreHalves _ _ _ _ = ⊥
