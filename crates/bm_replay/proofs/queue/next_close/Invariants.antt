use Rattle.std.proofs.Common.{◌≡◌}
use Rattle.bm_replay.specs.Inside.Queues.{closes_from}
use Rattle.bm_replay.proofs.queue.next_close.Given as goal

abbrev pub invariant-loop-i : goal.invariant-loop-i
invariant-loop-i l = closes_from l.commands l.fn.from ≡ closes_from l.commands l.i
