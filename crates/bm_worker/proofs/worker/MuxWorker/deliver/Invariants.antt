use Rattle.std.proofs.Common.{◌+◌, ◌*◌, ◌≤◌}
use Rattle.bm_fault.specs.Faults.{Gives}
use Rattle.bm_worker.specs.Inside.Pending.{HasSent}
use Rattle.bm_worker.proofs.Delivering.{HasDelivered}
use Rattle.bm_worker.proofs.worker.MuxWorker.deliver.Given as goal

abbrev pub invariant-loop-at : goal.invariant-loop-at
invariant-loop-at g l = record {
  sent : HasSent (9 * l.at) (39 * l.at) l.fn.self (record l.self { steps = l.fn.self.steps });
  steps : l.self.steps ≤ l.fn.self.steps + l.at;
  delivered : HasDelivered (Gives g.F.Fn l.shared.rule) l.shared.stage l.shared.servers l.sents
      l.fates l.at l.fn.self l.self;
}
