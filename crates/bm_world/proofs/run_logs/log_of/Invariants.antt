use Rattle.std.proofs.Common.{◌≡◌, map, take}
use Rattle.bm_shard.specs.declared.calls.ShardEntry.{ShardEntry}
use Rattle.bm_world.proofs.run_logs.log_of.Given as goal

abbrev pub invariant-loop-entry : goal.invariant-loop-entry
invariant-loop-entry l = l.events.items ≡ map (λ (e : ShardEntry). e.event) (take l.entry-index l.entries)
