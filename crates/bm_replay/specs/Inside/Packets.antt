-- The packets that a replay in progress keeps.
use Rattle.std.specs.Prelude.{◌≡◌, ◌<◌, ◌≤◌, ℕ, List, [], ◌∷◌, length, Some, slice_get}
use Rattle.std.specs.Prelude.{slice_index_or}
use Rattle.bm_base.specs.declared.capture.Record.{Record}
use Rattle.bm_fault.specs.Flying.{Flying}
use Rattle.bm_link.specs.Fits.{IsPacketOf}
use Rattle.bm_replay.specs.declared.queue.Queue.{Queue}
use Rattle.bm_replay.specs.Inside.Queues.{IsBehind}

-- the copies on the wire are of packets after the first n
abbrev pub AreBehind : ℕ → List Flying → Type 0
AreBehind n [] = Unit {0}
AreBehind n (f ∷ flying) = (n < f.flight.packet) × AreBehind n flying

-- each record after the first n has its packet, and the first n are no longer needed
pub record HoldsPackets (records : List Record) (n : ℕ) (packets : List (List ℕ))
    (flying : List Flying) (queue : Queue) : Type 0 where
  pub count : length packets ≡ length records
  pub each : (i : ℕ) (r : Record) → n ≤ i → slice_get records i ≡ Some r
      → IsPacketOf r.body (slice_index_or packets i [])
  pub under_way : AreBehind n flying
  pub behind : IsBehind n queue.next queue.head
  pub within : queue.next ≤ length records
