-- Where the flows of a table are.
use Rattle.std.specs.Prelude.{◌≡◌, ℕ, ◌+◌, ◌*◌, ◌/◌, ◌^◌, ◌<◌, ◌≤◌, ◌⊎◌, List, length, Some}
use Rattle.bm_base.specs.declared.flow.Flow.{Flow}
use Rattle.bm_seq.specs.declared.receiver.Receiver.{Receiver}
use Rattle.bm_conn.specs.declared.slot.Found.{Found}
use Rattle.bm_conn.specs.declared.slot.Slot.{Slot}
use Rattle.bm_conn.specs.declared.slot.Slot.TheVariants.{Free, Used}
use Rattle.bm_conn.specs.declared.table.Connection.{Connection}
use Rattle.bm_conn.specs.Connections.{Connections, receiver_in}
use Rattle.bm_conn.specs.Slots.{AreReached, IsPlaceOf, slot_at}

-- each flow is in exactly one slot, with its receiver, and no slot on the probe from its home is
-- free
pub record IsLaidOut (table : Connections) : Type 0 where
  -- eight times a power of two
  pub size : (power : ℕ) × (length table.slots ≡ 8 * 2 ^ power)
  pub stands : (f : Flow) (receiver : Receiver) → receiver_in table.connections f ≡ Some receiver
      → (place : ℕ) × (place < length table.slots) × (slot_at table.slots place ≡ Used f receiver)
  pub held : (place : ℕ) (f : Flow) (receiver : Receiver)
      → slot_at table.slots place ≡ Used f receiver
      → receiver_in table.connections f ≡ Some receiver
  pub alone : (p q : ℕ) (f : Flow) (a b : Receiver) → slot_at table.slots p ≡ Used f a
      → slot_at table.slots q ≡ Used f b → p ≡ q
  pub reached : AreReached table.slots (length table.slots)
  -- three quarters of the slots may be used
  pub spare : length table.connections + table.room ≡ length table.slots * 3 / 4
  pub free : (place : ℕ) × (place < length table.slots) × (slot_at table.slots place ≡ Free)

-- if no more slots may be used but there may be more flows, the slots are doubled; otherwise
-- nothing changes
abbrev pub Readies : Connections → Connections → Type 0
Readies old new =
    ((old.room ≡ 0) × (length old.connections < old.capacity)
    × (length new.slots ≡ 2 * length old.slots))
    ⊎ (((1 ≤ old.room) ⊎ (length old.connections ≡ old.capacity)) × (new ≡ old))

-- what a search for a flow finds: its receiver, if it is there, and where its probe ends
pub record IsFound (connections : List Connection) (slots : List Slot) (found : Found)
    : Type 0 where
  pub receiver : found.receiver ≡ receiver_in connections found.flow
  pub place : IsPlaceOf slots found.flow found.place
