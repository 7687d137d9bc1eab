-- How connections end by the records of a capture, and for which packets a break loses data,
-- computed by looking back (docs/DEFINITIONS.md). Records have the newest first.
use Rattle.std.specs.Prelude.{ℕ, zero, suc, ◌+◌, Bool, false, ◌&&◌, ◌||◌, not, ◌==◌, nat_lt}
use Rattle.std.specs.Prelude.{if◌then◌else◌, List, [], ◌∷◌, length, Option, Some, None, reverse}
use Rattle.std.specs.Prelude.{slice_get}
use Rattle.std.specs.Option.{option_map_or}
use Rattle.bm_base.specs.Segments.{FIN, RST, SYN, has_flag, is_opening, same_flow}
use Rattle.bm_base.specs.declared.capture.Record.{Record}
use Rattle.bm_base.specs.declared.flow.Flow.{Flow}
use Rattle.bm_base.specs.declared.flow.Segment.{Segment}
use Rattle.bm_core.specs.Past.{steerable}
use Rattle.bm_connections.specs.declared.connection.Ending.{Ending}
use Rattle.bm_connections.specs.declared.connection.Ending.TheVariants.{Open, Fin}
use Rattle.bm_connections.specs.Seen.{last_seen}

-- HOW A CONNECTION ENDS

-- the segment is of the flow and passes the test
abbrev pub is_segment_with : (Segment → Bool) → Option Segment → Flow → Bool
is_segment_with test segment f = option_map_or (λ s. same_flow s.flow f && test s) segment false

-- the record is a packet of the flow that passes the test
abbrev pub is_packet_with : (Segment → Bool) → Record → Flow → Bool
is_packet_with test r f = is_segment_with test (steerable (Some r)) f

-- a packet of the flow passes the test, and no packet of it after that one opens a connection
abbrev pub has_since_opening : (Segment → Bool) → List Record → Flow → Bool
has_since_opening test [] f = false
has_since_opening test (r ∷ records) f =
    is_packet_with test r f
    || not (is_packet_with is_opening r f) && has_since_opening test records f

-- a FIN ends a connection
abbrev pub ending_seen : List Record → Flow → Ending
ending_seen records f = if has_since_opening (has_flag FIN) records f then Fin else Open

-- PACKETS

-- what the test says of the record of this number, counted from 1, and of the records before it
abbrev pub of_packet : (Record → List Record → Bool) → List Record → ℕ → Bool
of_packet test [] k = false
of_packet test (r ∷ records) k =
    if k == suc (length records) then test r records else of_packet test records k

-- the number of sequence numbers that a flag takes
abbrev pub taken_by : ℕ → Segment → ℕ
taken_by flag s = if has_flag flag s then 1 else 0

-- the segment has octets of data: it takes more sequence numbers than its SYN and its FIN do
abbrev pub carries_data : Segment → Bool
carries_data s = nat_lt (taken_by SYN s + taken_by FIN s) s.len

-- the segment of the record of this number among these, counted from 1
abbrev pub segment_at : List Record → ℕ → Option Segment
segment_at records zero = None
segment_at records (suc i) = steerable (slice_get (reverse records) i)

-- the record is a packet with data, or the last packet of its flow before it has data
abbrev pub is_with_data : Record → List Record → Bool
is_with_data r records =
    option_map_or
    (λ s. carries_data s
    || option_map_or (λ before. carries_data before)
    (segment_at records (last_seen records s.flow).number) false)
    (steerable (Some r)) false

-- the segment opens a connection or gives one up
abbrev pub is_at_an_end : Segment → Bool
is_at_an_end s = is_opening s || has_flag RST s

-- the record is a packet in the middle of its connection: it neither opens one nor carries RST, and
-- no FIN of the connection has come, its own included
abbrev pub is_in_the_middle : Record → List Record → Bool
is_in_the_middle r records =
    option_map_or
    (λ s. not (is_at_an_end s) && not (has_since_opening (has_flag FIN) (r ∷ records) s.flow))
    (steerable (Some r)) false

-- data is lost if the packet isn't processed: it concerns more than the farewell
abbrev pub is_risky : Record → List Record → Bool
is_risky r records = is_with_data r records || is_in_the_middle r records
