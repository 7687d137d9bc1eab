-- A server as contracts see it.
use Rattle.std.specs.Prelude.{ℕ, List, length}
use Rattle.atomic_table.specs.Seated.{TableId}
use Rattle.bm_base.specs.declared.flow.Flow.{Flow}
use Rattle.bm_base.specs.declared.ids.ServerId.{ServerId}
use Rattle.bm_hash.specs.Buckets.{shard_of}
use Rattle.bm_shard.specs.declared.book.Shard.{Shard}

pub record Serving : Type 0 where
  pub id : ServerId
  -- the same for all its shards: how many connections each may hold, and for how many nanoseconds
  -- after a move it passes packets on
  pub capacity : ℕ
  pub timeout : ℕ
  -- how many seats it has
  pub seats : ℕ
  -- the turnstiles of its shards, in their order
  pub tables : List TableId

abbrev pub serving : ServerId → ℕ → ℕ → ℕ → List TableId → Serving
serving id capacity timeout seats tables = record {
  id = id;
  capacity = capacity;
  timeout = timeout;
  seats = seats;
  tables = tables;
}

-- the shard h
abbrev pub shard_at : Serving → ℕ → Shard
shard_at server h = record {
  server = server.id;
  number = h;
  capacity = server.capacity;
  timeout = server.timeout;
}

-- the number of a flow's shard
abbrev pub shard_for : Serving → Flow → ℕ
shard_for server flow = shard_of (length server.tables) flow
