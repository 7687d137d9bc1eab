use Rattle.std.proofs.Common.{◌≡◌, ℕ}
use Rattle.bm_replay.specs.Inside.Queues.{retires_from}
use Rattle.bm_replay.proofs.queue.next_retire.Given as goal

abbrev pub invariant-loop-i : goal.invariant-loop-i
invariant-loop-i l = (shards : ℕ) → retires_from shards l.commands l.fn.from ≡ retires_from shards l.commands l.i
