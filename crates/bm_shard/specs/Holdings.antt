-- What a shard knows of a flow, and how a turn changes what it holds.
use Rattle.std.specs.Prelude.{◌≡◌, ◌||◌, ◌==◌, length}
use Rattle.bm_base.specs.declared.flow.Flow.{Flow}
use Rattle.bm_conn.specs.Connections.{receiver_in}
use Rattle.bm_core.specs.declared.events.Local.{Local}
use Rattle.bm_core.specs.Books.{Turn, turn_held, turn_retires}
use Rattle.bm_shard.specs.declared.holding.Holding.{Holding}

-- what a shard that holds this knows of a flow
abbrev pub local_in : Holding → Flow → Local
local_in h f = record {
  retired = h.retired;
  held = receiver_in h.table.connections f;
  full = length h.table.connections == h.table.capacity;
}

-- what is held after the turn
pub record TakesTurn (turn : Turn) (old new : Holding) : Type 0 where
  pub held : (f : Flow)
      → receiver_in new.table.connections f ≡ turn_held turn f (receiver_in old.table.connections f)
  pub retired : new.retired ≡ (turn_retires turn || old.retired)
  pub capacity : new.table.capacity ≡ old.table.capacity
