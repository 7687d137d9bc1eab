use Rattle.std.proofs.Common.{◌≡◌, ◌++◌}
use Rattle.bm_replay.specs.Inside.Shards.{server_shards}
use Rattle.bm_replay.proofs.shards.add_server.Given as goal

abbrev pub invariant-loop-number : goal.invariant-loop-number
invariant-loop-number l = l.slots.items ≡ l.fn.slots.items ++ server_shards l.setting l.server l.number
