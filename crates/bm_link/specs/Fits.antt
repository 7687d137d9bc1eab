-- What the packet of a record is.
use Rattle.std.specs.Prelude.{◌≡◌, ℕ, ◌≤◌, List, [], length, slice_get, slice_index_or, Some}
use Rattle.bm_base.specs.declared.capture.Body.{Body}
use Rattle.bm_base.specs.declared.capture.Body.TheVariants.{Steerable, Unsteered}
use Rattle.bm_base.specs.declared.capture.Record.{Record}
pub use Rattle.bm_tcp.specs.Packets.{ReadsAs}

-- the packet of a record; if the record is steered, it reads as the segment, and leaves room for a
-- carrier header
abbrev pub IsPacketOf : Body → List ℕ → Type 0
IsPacketOf (Steerable s) packet = (length packet ≤ 65479) × ReadsAs packet s
IsPacketOf (Unsteered why) packet = packet ≡ []

-- for each record its packet
pub record ArePackets (records : List Record) (packets : List (List ℕ)) : Type 0 where
  pub count : length packets ≡ length records
  pub each : (i : ℕ) (r : Record) → slice_get records i ≡ Some r
      → IsPacketOf r.body (slice_index_or packets i [])
