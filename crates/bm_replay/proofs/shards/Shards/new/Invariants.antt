use Rattle.std.proofs.Common.{◌≡◌}
use Rattle.bm_replay.specs.Inside.Shards.{all_shards}
use Rattle.bm_replay.proofs.shards.Shards.new.Given as goal

abbrev pub invariant-loop-server : goal.invariant-loop-server
invariant-loop-server l = l.slots.items ≡ all_shards l.setting l.server
