use Rattle.std.proofs.Common.{◌≤◌}
use Rattle.bm_fault.specs.Faults.{Gives}
use Rattle.bm_worker.specs.Inside.Batches.{AreCollected}
use Rattle.bm_worker.proofs.batch.collect.Given as goal

abbrev pub invariant-loop-at : goal.invariant-loop-at
invariant-loop-at g l = record {
  at : l.fn.from ≤ l.at;
  all : AreCollected (Gives g.F.Fn l.shared.rule) l.shared.stage l.shared.routes l.mux.0 l.fn.from
      l.at l.items.items l.fates.items;
}
