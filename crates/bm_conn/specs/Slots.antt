-- The slots of a table: open addressing, with linear probing from each flow's home.
use Rattle.std.specs.Prelude.{◌≡◌, ℕ, ◌+◌, ◌-◌, ◌/◌, ◌%◌, ◌^◌, ◌<◌, Bool, true, false}
use Rattle.std.specs.Prelude.{if◌then◌else◌}
use Rattle.std.specs.Prelude.{nat_le, List, length, slice_index_or, ◌⊎◌}
use Rattle.bm_base.specs.declared.flow.Flow.{Flow}
use Rattle.bm_base.specs.Segments.{same_flow}
use Rattle.bm_hash.specs.Buckets.{flow_hash}
use Rattle.bm_seq.specs.declared.receiver.Receiver.{Receiver}
use Rattle.bm_conn.specs.declared.slot.Slot.{Slot}
use Rattle.bm_conn.specs.declared.slot.Slot.TheVariants.{Free, Used}

-- the slot at a place
abbrev pub slot_at : List Slot → ℕ → Slot
slot_at slots place = slice_index_or slots place Free

abbrev pub is_free : Slot → Bool
is_free Free = true
is_free (Used f receiver) = false

-- the slot is this flow's
abbrev pub is_of : Flow → Slot → Bool
is_of f Free = false
is_of f (Used g receiver) = same_flow g f

-- how many steps it is from one place to another among this many places, wrapping around at the end
unfoldable pub distance : ℕ → ℕ → ℕ → ℕ
distance count from to = if nat_le from to then to - from else to + count - from

-- where the flow's probe begins, among this many places: by the hash without its low 40 bits, since
-- the low bits choose the bucket, those from bit 32 on the shard, and a shard has the flows of few
-- buckets
unfoldable pub home : ℕ → Flow → ℕ
home count f = flow_hash f / 2 ^ 40 % count

-- each flow's probe from its home up to its slot, wrapping around at the end, has no free slot
pub record AreReached (slots : List Slot) (count : ℕ) : Type 0 where
  pub way : (place : ℕ) (f : Flow) (receiver : Receiver) → slot_at slots place ≡ Used f receiver
      → (between : ℕ) → between < count
      → distance count (home count f) between < distance count (home count f) place
      → is_free (slot_at slots between) ≡ false

-- a probe ends at a free slot or at the flow's own
abbrev pub Stops : List Slot → Flow → ℕ → Type 0
Stops slots f place =
    (is_free (slot_at slots place) ≡ true) ⊎ (is_of f (slot_at slots place) ≡ true)

-- the flow's probe ends at this place, past slots of other flows
pub record IsPlaceOf (slots : List Slot) (f : Flow) (place : ℕ) : Type 0 where
  pub within : place < length slots
  pub stops : Stops slots f place
  pub passed : (between : ℕ) → between < length slots
      → distance (length slots) (home (length slots) f) between
      < distance (length slots) (home (length slots) f) place
      → (is_free (slot_at slots between) ≡ false) × (is_of f (slot_at slots between) ≡ false)
