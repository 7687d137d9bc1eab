use Rattle.std.proofs.Common.{◌≡◌}
use Rattle.bm_replay.specs.Inside.Queues.{syncs_from}
use Rattle.bm_replay.proofs.queue.next_sync.Given as goal

abbrev pub invariant-loop-i : goal.invariant-loop-i
invariant-loop-i l = syncs_from l.commands l.fn.from ≡ syncs_from l.commands l.i
