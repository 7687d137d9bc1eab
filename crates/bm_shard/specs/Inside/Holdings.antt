-- When a shard can open, take and serve a flow, and what that leaves.
use Rattle.std.specs.Prelude.{◌≡◌, ◌<◌, if◌then◌else◌, List, length, None, option_map}
use Rattle.bm_base.specs.declared.flow.Flow.{Flow}
use Rattle.bm_base.specs.declared.flow.Segment.{Segment}
use Rattle.bm_base.specs.Segments.{same_flow}
use Rattle.bm_seq.specs.Receivers.{receiver_after}
use Rattle.bm_conn.specs.Connections.{HasRoom, receiver_in}
use Rattle.bm_core.specs.declared.events.Verdict.{Verdict}
use Rattle.bm_core.specs.declared.events.Verdict.TheVariants.{Accept}
use Rattle.bm_core.specs.Books.{Turn, book_held, book_retired}
use Rattle.bm_shard.specs.declared.calls.ShardCall.{ShardCall}
use Rattle.bm_shard.specs.declared.holding.Holding.{Holding}
use Rattle.bm_shard.specs.Books.{IsShort}

-- what is held after taking a segment that ends no connection
pub record Takes (s : Segment) (old new : Holding) : Type 0 where
  pub held : (f : Flow) → receiver_in new.table.connections f
      ≡ (if same_flow s.flow f then option_map (λ r. receiver_after r s)
      (receiver_in old.table.connections f) else receiver_in old.table.connections f)
  pub retired : new.retired ≡ old.retired
  pub capacity : new.table.capacity ≡ old.table.capacity

-- the flow is held, or there is a place for it that needs no memory
abbrev pub CanOpen : Flow → Holding → Type 0
CanOpen f h =
    receiver_in h.table.connections f ≡ None → (length h.table.connections < h.table.capacity)
    × HasRoom h.table

-- there is a place for the connection of an Accept
abbrev pub CanTake : Verdict → Segment → Holding → Type 0
CanTake Accept s h = CanOpen s.flow h
CanTake _ s h = Unit {0}

-- a call can be carried out without memory
pub record CanServe (call : ShardCall) (h : Holding) : Type 0 where
  pub room : HasRoom h.table
  pub short : IsShort call

-- what the turns of a shard left
pub record IsLeftBy (book : List Turn) (h : Holding) : Type 0 where
  pub held : (f : Flow) → receiver_in h.table.connections f ≡ book_held book f
  pub retired : h.retired ≡ book_retired book
