use Rattle.std.proofs.Common.{◌≡◌}
use Rattle.bm_rows.specs.Rows.{items_of}
use Rattle.bm_world.proofs.MakingWorkers.{AreParted}
use Rattle.bm_world.proofs.mux_workers.take_apart.Given as goal

abbrev pub invariant-loop-worker : goal.invariant-loop-worker
invariant-loop-worker l =
    (l.poster ≡ l.fn.poster)
    × AreParted l.fn.poster l.fn.leader.log.items l.fn.leader.caller.seats l.yielded l.logs.items (items_of l.rows.items)
