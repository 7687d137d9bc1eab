-- Which flows the records of a capture have, and where each was first and last seen, computed by
-- looking back (docs/DEFINITIONS.md). Records have the newest first.
use Rattle.std.specs.Prelude.{suc, Bool, false, ◌&&◌, ◌||◌, not, if◌then◌else◌, List, [], ◌∷◌}
use Rattle.std.specs.Prelude.{◌++◌, length, Option, Some, None, reverse}
use Rattle.bm_base.specs.declared.capture.Record.{Record}
use Rattle.bm_base.specs.declared.flow.Flow.{Flow}
use Rattle.bm_base.specs.declared.flow.Segment.{Segment}
use Rattle.bm_core.specs.declared.events.Stage.{Stage}
use Rattle.bm_core.specs.Past.{is_of, steerable}
use Rattle.bm_connections.specs.declared.connection.Sight.{Sight}

-- the record is a packet of the flow
abbrev pub is_packet_of : Record → Flow → Bool
is_packet_of r f = is_of (steerable (Some r)) f

-- one of these records is a packet of the flow
abbrev pub is_seen : List Record → Flow → Bool
is_seen [] f = false
is_seen (r ∷ records) f = is_packet_of r f || is_seen records f

-- these flows, and after them the segment's, unless one of these records is a packet of it
abbrev pub with_flow : Option Segment → List Record → List Flow → List Flow
with_flow None records flows = flows
with_flow (Some s) records flows = if is_seen records s.flow then flows else flows ++ s.flow ∷ []

-- the flows of these records, each once, in the order of their first packets
abbrev pub flows_of : List Record → List Flow
flows_of [] = []
flows_of (r ∷ records) = with_flow (steerable (Some r)) records (flows_of records)

-- the number and the moment of the record that comes after these
abbrev pub sight : List Record → Record → Sight
sight records r = record { number = suc (length records); moment = r.moment }

-- for a flow that wasn't seen
abbrev pub nowhere : Sight
nowhere = record { number = 0; moment = record { 0 = 0 } }

-- the first packet of the flow among these records
abbrev pub first_seen : List Record → Flow → Sight
first_seen [] f = nowhere
first_seen (r ∷ records) f =
    if is_packet_of r f && not (is_seen records f) then sight records r else first_seen records f

-- the last packet of the flow among these records
abbrev pub last_seen : List Record → Flow → Sight
last_seen [] f = nowhere
last_seen (r ∷ records) f = if is_packet_of r f then sight records r else last_seen records f

-- the records of a stage, the newest first
abbrev pub records_of : Stage → List Record
records_of stage = reverse stage.capture.records
