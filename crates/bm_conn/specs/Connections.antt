-- A finite map from flows to receivers, of bounded size.
use Rattle.std.specs.Prelude.{◌≡◌, ◌⊎◌, ℕ, ◌≤◌, if◌then◌else◌, List, [], ◌∷◌, length}
use Rattle.std.specs.Prelude.{Option, Some, None}
use Rattle.bm_base.specs.declared.flow.Flow.{Flow}
use Rattle.bm_base.specs.Segments.{same_flow}
use Rattle.bm_seq.specs.declared.receiver.Receiver.{Receiver}
use Rattle.bm_conn.specs.declared.table.Connection.{Connection}
use Rattle.bm_conn.specs.declared.slot.Slot.{Slot}

-- a table as contracts see it
pub record Connections : Type 0 where
  -- the flows with their receivers, in no particular order
  pub connections : List Connection
  -- how many flows there may be
  pub capacity : ℕ
  -- how many more flows it can take without memory
  pub room : ℕ
  -- the slots of the flows
  pub slots : List Slot

-- the receiver of the flow, if the flow is there
abbrev pub receiver_in : List Connection → Flow → Option Receiver
receiver_in [] f = None
receiver_in (c ∷ connections) f =
    if same_flow c.flow f then Some c.receiver else receiver_in connections f

-- no flow is there twice
abbrev pub AreOnce : List Connection → Type 0
AreOnce [] = Unit {0}
AreOnce (c ∷ connections) = (receiver_in connections c.flow ≡ None) × AreOnce connections

-- a map of at most its capacity
pub record IsMap (table : Connections) : Type 0 where
  pub some : 1 ≤ table.capacity
  pub most : table.capacity ≤ 65536
  pub few : length table.connections ≤ table.capacity
  pub once : AreOnce table.connections

-- the flow has this receiver, or none; every other flow has what it had
pub record Puts (f : Flow) (receiver : Option Receiver) (old new : Connections) : Type 0 where
  pub capacity : new.capacity ≡ old.capacity
  pub each : (g : Flow)
      → receiver_in new.connections g
      ≡ (if same_flow f g then receiver else receiver_in old.connections g)

-- every flow has what it had
pub record IsSame (old new : Connections) : Type 0 where
  pub capacity : new.capacity ≡ old.capacity
  pub count : length new.connections ≡ length old.connections
  pub each : (g : Flow) → receiver_in new.connections g ≡ receiver_in old.connections g

-- one more flow needs no memory, or the table is full
abbrev pub HasRoom : Connections → Type 0
HasRoom table = (1 ≤ table.room) ⊎ (length table.connections ≡ table.capacity)
