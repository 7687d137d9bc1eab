use Rattle.std.proofs.Common.{◌≡◌}
use Rattle.bm_replay.specs.Inside.Queues.{packets_after}
use Rattle.bm_replay.proofs.queue.next_packet.Given as goal

abbrev pub invariant-loop-i : goal.invariant-loop-i
invariant-loop-i l = packets_after l.records l.fn.from ≡ packets_after l.records l.i
