use Rattle.std.proofs.Common.{List, ◌<◌, ◌^◌, length}
use Rattle.std.specs.Prelude.{All, take}
use Rattle.bm_base.specs.declared.fate.Fate.{Fate}
use Rattle.bm_core.specs.declared.events.Event.{Event}
use Rattle.bm_fault.specs.Faults.{Gives}
use Rattle.bm_state.specs.Losses.{KeepsLosses}
use Rattle.bm_state.specs.Tallies.{KeepsTallies}
use Rattle.bm_check.specs.Inside.Copies.{AreFated, IsOne, IsSettled}
use Rattle.bm_check.proofs.copies.are_settled.Given as goal

abbrev pub invariant-loop-event : goal.invariant-loop-event
invariant-loop-event g l =
    (all : List Event) (fates : List Fate) → length all < 2 ^ 62 → KeepsTallies all l.tallies
    → KeepsLosses all l.losses → IsOne (Gives g.F.Fn l.faults.rule) → AreFated (Gives g.F.Fn l.faults.rule) fates all
    → All (λ e. IsSettled fates all e) (take l.event-index l.events)
