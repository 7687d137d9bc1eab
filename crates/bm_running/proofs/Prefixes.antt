-- The beginnings of a run are runs.
use mathlib.Core.List.{reverse_aux}
use Rattle.std.proofs.Common.{ℕ, zero, suc, ◌+◌, ◌^◌, ◌<◌, ◌≤◌, List, [], ◌∷◌, length, get_or, arith, subst}
use Rattle.std.specs.Prelude.{reverse, take}
use Rattle.std.proofs.lemmas.List.{length-reverse, length-take-le}
use Rattle.bm_core.specs.declared.events.Event.{Event}
use Rattle.bm_core.specs.declared.events.Stage.{Stage}
use Rattle.bm_core.specs.Runs.{IsStep, Run}
use Rattle.bm_state.proofs.Newest.{reverse_take}
use Rattle.bm_running.specs.FirstStop.{IsLeast, IsNoRunTo}

-- what is left of a run after its newest events
run_older : (stage : Stage) (newer past : List Event) → Run stage (reverse_aux newer past) → Run stage past
run_older stage [] past run = run
run_older stage (x ∷ newer) past run = (run_older stage newer (x ∷ past) run).1

run_begins : (stage : Stage) (events past : List Event) (m n : ℕ) → m ≤ n
    → Run stage (reverse_aux (take n events) past) → Run stage (reverse_aux (take m events) past)
run_begins stage [] past zero zero few run = run
run_begins stage [] past zero (suc n) few run = run
run_begins stage [] past (suc m) zero few run = run
run_begins stage [] past (suc m) (suc n) few run = run
run_begins stage (x ∷ events) past zero n few run = run_older stage (take n (x ∷ events)) past run
run_begins stage (x ∷ events) past (suc m) zero few run = absurd (omega arith)
run_begins stage (x ∷ events) past (suc m) (suc n) few run =
    run_begins stage events (x ∷ past) m n (omega arith) run

-- the first events are a run, and one more aren't
pub first_bad : (stage : Stage) (events : List Event) (place : ℕ) (d : Event) → place < length events
    → Run stage (reverse (take place events))
    → (IsStep stage (reverse (take place events)) (get_or events place d) → ⊥)
    → IsLeast (IsNoRunTo stage events) (place + 1)
first_bad stage events place d below run bad = (
  λ longer.
      let is : Run stage (get_or events place d ∷ reverse (take place events)) =
      subst (λ (past : List Event). Run stage past) (reverse_take events place d below) longer
      in bad is.0,
  λ m early no. no (run_begins stage events [] m place (omega arith) run),
)

-- fewer events came before one of them
pub few_before : (events : List Event) (place : ℕ) → place < length events → length events < 2 ^ 63
    → length (reverse (take place events)) < 2 ^ 63
few_before events place below few =
    let all = length-reverse (take place events)
    in let first = length-take-le place events (omega (arith, below))
    in omega (arith, all, first, below, few)
