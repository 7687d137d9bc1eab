use Rattle.std.proofs.Common.{List}
use Rattle.std.specs.Prelude.{reverse, take}
use Rattle.bm_base.specs.declared.fate.Fate.{Fate}
use Rattle.bm_core.specs.Accounts.{AreSent}
use Rattle.bm_fault.specs.Faults.{Gives}
use Rattle.bm_state.specs.Tallies.{KeepsTallies}
use Rattle.bm_check.specs.Inside.Copies.{AreFated}
use Rattle.bm_check.proofs.copies.are_sent.Given as goal

abbrev pub invariant-loop-event : goal.invariant-loop-event
invariant-loop-event g l =
    KeepsTallies (reverse (take l.event-index l.events)) l.tallies
    × ((fates : List Fate) × AreFated (Gives g.F.Fn l.faults.rule) fates (reverse (take l.event-index l.events))
    × AreSent fates (reverse (take l.event-index l.events)))
