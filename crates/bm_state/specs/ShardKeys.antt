-- The shards of servers as the keys of maps.
use Rattle.std.specs.Prelude.{ℕ}
use Rattle.bm_base.specs.declared.ids.ServerId.{ServerId}
use Rattle.bm_state.specs.declared.shard_key.ShardKey.{ShardKey}

abbrev pub key_at : ServerId → ℕ → ShardKey
key_at s h = record { server = s.0; shard = h }
