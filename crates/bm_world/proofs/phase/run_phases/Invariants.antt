use Rattle.std.proofs.Common.{◌≡◌, length}
use Rattle.bm_fault.specs.Faults.{Gives}
use Rattle.bm_world.specs.Inside.RunStates.{IsNext, left_of}
use Rattle.bm_world.proofs.phase.run_phases.Given as goal

abbrev pub invariant-loop-next : goal.invariant-loop-next
invariant-loop-next g l = record {
  next : IsNext (Gives g.F.Fn l.shared.rule) l.shared.stage l.shared.servers l.shared.routes
      l.poster l.leader l.workers l.next;
  count : length l.workers ≡ length l.fn.workers;
}

abbrev pub decreases-loop-next : goal.decreases-loop-next
decreases-loop-next g l = left_of l.next l.leader.next (length l.shared.stage.script.commands)
