use Rattle.std.proofs.Common.{◌≡◌, length}
use Rattle.bm_world.proofs.MakingWorkers.{AreMade}
use Rattle.bm_world.proofs.mux_workers.make_workers.Given as goal

abbrev pub invariant-loop-look : goal.invariant-loop-look
invariant-loop-look l = record {
  mux : l.mux ≡ length l.yielded;
  made : AreMade l.yielded l.workers.items;
}
