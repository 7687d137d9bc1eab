-- What the contracts of private calls and the proofs of bodies use in addition to Slots.
use Rattle.std.specs.Prelude.{◌≡◌, ℕ, ◌+◌, ◌<◌, false, if◌then◌else◌, ◌==◌}
use Rattle.std.specs.Prelude.{List, [], ◌∷◌, length, slice_set, ◌≤◌, ◌⊎◌}
use Rattle.std.specs.Prelude.{Option, Some, None}
use Rattle.bm_base.specs.declared.flow.Flow.{Flow}
use Rattle.bm_base.specs.Segments.{same_flow}
use Rattle.bm_seq.specs.declared.receiver.Receiver.{Receiver}
use Rattle.bm_conn.specs.Connections.{AreOnce, receiver_in}
use Rattle.bm_conn.specs.declared.table.Connection.{Connection}
use Rattle.bm_conn.specs.declared.slot.Slot.{Slot}
use Rattle.bm_conn.specs.declared.slot.Slot.TheVariants.{Free, Used}
use Rattle.bm_conn.specs.Slots.{slot_at, is_free, is_of, distance, home, AreReached}

-- the connections in the slots, in the order of their slots
abbrev pub used : List Slot → List Connection
used [] = []
used (Free ∷ slots) = used slots
used (Used f receiver ∷ slots) = record { flow = f; receiver = receiver } ∷ used slots

-- the receiver in a slot
abbrev pub receiver_of : Slot → Option Receiver
receiver_of Free = None
receiver_of (Used f receiver) = Some receiver

-- the next place, wrapping around at the end
abbrev pub after : ℕ → ℕ → ℕ
after count place = if (place + 1) == count then 0 else place + 1

-- the place is this many steps from the flow's home, past slots of other flows only
pub record IsWalked (slots : List Slot) (f : Flow) (place steps : ℕ) : Type 0 where
  pub within : place < length slots
  pub gone : steps < length slots → distance (length slots) (home (length slots) f) place ≡ steps
  pub passed : (between : ℕ) → between < length slots
      → distance (length slots) (home (length slots) f) between < steps
      → (is_free (slot_at slots between) ≡ false) × (is_of f (slot_at slots between) ≡ false)

-- no flow's probe meets a free slot other than this hole
pub record HasHole (slots : List Slot) (count hole : ℕ) : Type 0 where
  pub inside : hole < count
  pub free : slot_at slots hole ≡ Free
  pub way : (place : ℕ) (f : Flow) (receiver : Receiver) → slot_at slots place ≡ Used f receiver
      → (between : ℕ) → between < count
      → distance count (home count f) between < distance count (home count f) place
      → (between ≡ hole → ⊥) → is_free (slot_at slots between) ≡ false

-- the same flows with the same receivers
pub record HoldsSame (old new : List Slot) : Type 0 where
  pub size : length new ≡ length old
  pub count : length (used new) ≡ length (used old)
  pub once : AreOnce (used new)
  pub each : (f : Flow) → receiver_in (used new) f ≡ receiver_in (used old) f

-- this many places from the start on were checked for flows whose probe passes the hole
pub record IsShifting (slots : List Slot) (count start hole place steps : ℕ) : Type 0 where
  pub size : length slots ≡ count
  pub few : length (used slots) + 2 ≤ count
  pub start_inside : start < count
  pub place_inside : place < count
  pub gone : distance count start place + 1 ≡ steps
  pub behind : distance count start hole ≤ distance count start place
  pub ways : HasHole slots count hole
  pub seen : (k : ℕ) → k < count → distance count start k < steps → (k ≡ hole → ⊥)
      → is_free (slot_at slots k) ≡ false
  -- no probe to a slot after the hole, as far as these were checked, passes the hole
  pub clear : (k : ℕ) (f : Flow) (receiver : Receiver) → k < count
      → slot_at slots k ≡ Used f receiver
      → 0 < distance count hole k → distance count hole k ≤ distance count hole place
      → distance count (home count f) k ≤ distance count (home count f) hole

-- the flow at the place is moved into the hole, if its probe passes it; where the hole is then
abbrev pub Shifts : ℕ → Flow → List Slot → List Slot → ℕ → ℕ → ℕ → Type 0
Shifts count f old new hole place result =
    ((distance count (home count f) hole < distance count (home count f) place)
    × (new ≡ slice_set (slice_set old place Free) hole (slot_at old place)) × (result ≡ place))
    ⊎ ((distance count (home count f) place ≤ distance count (home count f) hole) × (new ≡ old)
    × (result ≡ hole))

-- each flow is in one slot, and its probe reaches it
pub record IsPlaced (slots : List Slot) : Type 0 where
  pub once : AreOnce (used slots)
  pub reached : AreReached slots (length slots)

-- the flow has this receiver, or none; every other flow has what it had
pub record IsPutInto (f : Flow) (receiver : Option Receiver) (old new : List Slot) : Type 0 where
  pub size : length new ≡ length old
  pub placed : IsPlaced new
  pub each : (g : Flow)
      → receiver_in (used new) g ≡ (if same_flow f g then receiver else receiver_in (used old) g)

-- the flows of the old slots are in the new ones
pub record AreMoved (old new : List Slot) (places : ℕ) : Type 0 where
  pub size : length new ≡ places
  pub placed : IsPlaced new
  pub count : length (used new) ≡ length (used old)
  pub each : (f : Flow) → receiver_in (used new) f ≡ receiver_in (used old) f
