-- What the code keeps of connections while it goes through records and events.
use Rattle.std.specs.Prelude.{◌≡◌, ℕ, zero, suc, ◌<◌, ◌^◌, Bool, true, false, ◌&&◌, ◌||◌, not}
use Rattle.std.specs.Prelude.{if◌then◌else◌, List, [], ◌∷◌}
use Rattle.std.specs.Prelude.{◌++◌, length, Option, Some, None, is_some, map, option_map, slice_get}
use Rattle.std.specs.BTreeMap as tree
use Rattle.std.specs.Option.{option_map_or}
use Rattle.bm_base.specs.contracts.flow.FlowOrd.TheImpl as flow_order
use Rattle.bm_base.specs.Segments.{FIN, has_flag, is_opening, same_flow}
use Rattle.bm_base.specs.declared.capture.Record.{Record}
use Rattle.bm_base.specs.declared.flow.Flow.{Flow}
use Rattle.bm_base.specs.declared.flow.Segment.{Segment}
use Rattle.bm_base.specs.declared.ids.ServerId.{ServerId}
use Rattle.bm_core.specs.declared.events.Event.{Event}
use Rattle.bm_core.specs.declared.events.Stage.{Stage}
use Rattle.bm_core.specs.declared.events.Verdict.{Verdict}
use Rattle.bm_core.specs.Causes.{is_process}
use Rattle.bm_core.specs.Past.{is_accept, is_forward, steerable}
use Rattle.bm_trace.specs.Totals.{is_drop, is_reset}
use Rattle.bm_connections.specs.declared.connection.Break.{Break}
use Rattle.bm_connections.specs.declared.connection.Connection.{Connection}
use Rattle.bm_connections.specs.declared.connection.Ending.{Ending}
use Rattle.bm_connections.specs.declared.connection.Ending.TheVariants.{Open, Fin}
use Rattle.bm_connections.specs.declared.connection.Forwarding.{Forwarding}
use Rattle.bm_connections.specs.declared.connection.Sight.{Sight}
use Rattle.bm_connections.specs.declared.connection.Tally.{Tally}
use Rattle.bm_connections.specs.declared.observed.Facts.{Facts}
use Rattle.bm_connections.specs.declared.rows.Rows.{Rows}
use Rattle.bm_connections.specs.declared.seen.Seen.{Seen}
use Rattle.bm_connections.specs.Connections.{connection, first_of_two, one_more}
use Rattle.bm_connections.specs.Endings.{carries_data, ending_seen, is_at_an_end, segment_at}
use Rattle.bm_connections.specs.Endings as endings
use Rattle.bm_connections.specs.Inside.Marks.{mark_of, marks_by}
use Rattle.bm_connections.specs.Seen.{first_seen, flows_of, last_seen}

-- no arrivals
abbrev pub none : Tally
none = record {
  accepted = 0;
  processed = 0;
  forwarded = 0;
  reset = 0;
  dropped = 0;
  stray = 0;
  after_its_end = 0;
}

-- how a connection ends by the records after another segment of it
abbrev pub ending_after : Segment → Ending → Ending
ending_after s before =
    if is_opening s then Open else if has_flag FIN s then Fin else before

-- no FIN ended the connection
abbrev pub is_unfinished : Ending → Bool
is_unfinished Fin = false
is_unfinished _ = true

-- the segment is in the middle of a connection that ended so before it
abbrev pub is_in_the_middle : Segment → Ending → Bool
is_in_the_middle s before = not (is_at_an_end s) && is_unfinished (ending_after s before)

-- the segment concerns more than the farewell, if the one before it had data or not, and the
-- connection ended so before it
abbrev pub is_risky : Segment → Bool → Ending → Bool
is_risky s after_data before = (carries_data s || after_data) || is_in_the_middle s before

-- a flow that was first and last seen in these records, without arrivals
abbrev pub seen_from : Flow → Sight → Sight → Ending → Connection
seen_from f first last ending = record {
  flow = f;
  first = first;
  last = last;
  ending = ending;
  server = None;
  tally = none;
  forwarded = None;
  broken = None;
  refused = None;
  losing_data = false;
}

-- a connection after another packet of it was seen, with this segment
abbrev pub seen_again : Sight → Segment → Connection → Connection
seen_again t s c = record c { last = t; ending = ending_after s c.ending }

-- the record of this number among these has data
abbrev pub has_data_at : List Record → ℕ → Bool
has_data_at records number =
    option_map_or (λ s. carries_data s) (segment_at records number) false

-- the segment, which comes after these records, concerns more than the farewell of the connection
-- at a place
abbrev pub is_risky_at : List Connection → ℕ → List Record → Segment → Bool
is_risky_at list place records s =
    option_map_or (λ c. is_risky s (has_data_at records c.last.number) c.ending)
    (slice_get list place) false

-- the counts after an arrival with this verdict, which is a break or not, and is one that comes
-- after its connection's end or not
abbrev pub tallied : Verdict → Bool → Bool → Tally → Tally
tallied verdict broke late t = record {
  accepted = one_more (is_accept verdict) t.accepted;
  processed = one_more (is_process verdict) t.processed;
  forwarded = one_more (is_forward verdict) t.forwarded;
  reset = one_more (is_reset verdict) t.reset;
  dropped = one_more (is_drop verdict) t.dropped;
  stray = one_more (is_process verdict && broke) t.stray;
  after_its_end = one_more late t.after_its_end;
}

-- the server that accepted a flow last, after an arrival of one of its packets
abbrev pub server_after : Break → Option ServerId → Option ServerId
server_after b before = if is_accept b.verdict then Some b.server else before

-- the last forwarding after an arrival with this wait
abbrev pub forwarded_after : Break → ℕ → Option Forwarding → Option Forwarding
forwarded_after b wait before =
    if is_forward b.verdict
    then Some
    (record { packet = b.packet; clock = b.clock; server = b.server; wait = wait })
    else before

-- what is known of the packet of an arrival with this wait, which breaks nothing since it comes
-- after its connection's end, or not
abbrev pub facts_of : Rows → Bool → ℕ → ℕ → Facts
facts_of rows late packet wait = record {
  wait = wait;
  after_its_end = late;
  risks_data = mark_of rows.risky.items packet;
}

-- an arrival is a break that counts
abbrev pub is_counted : Break → Facts → Bool
is_counted b x = is_some b.cause && not x.after_its_end

-- the refusal after an arrival, if the flow then has this server
abbrev pub refused_after : Break → Facts → Option ServerId → Option Break → Option Break
refused_after b x server before =
    if is_some server then None
    else first_of_two before (if is_counted b x then Some b else None)

-- the connection of a flow after an arrival of one of its packets, with these facts
abbrev pub observed : Break → Facts → Connection → Connection
observed b x c = record {
  flow = c.flow;
  first = c.first;
  last = c.last;
  ending = c.ending;
  server = server_after b c.server;
  tally = tallied b.verdict (is_some b.cause) x.after_its_end c.tally;
  forwarded = forwarded_after b x.wait c.forwarded;
  broken =
      first_of_two c.broken
      (if is_counted b x && is_some c.server then Some b else None);
  refused = refused_after b x (server_after b c.server) c.refused;
  losing_data = (is_counted b x && is_some c.server) && x.risks_data || c.losing_data;
}

-- each count can take one more
pub record HasRoom (t : Tally) : Type 0 where
  pub accepted : suc t.accepted < 2 ^ 64
  pub processed : suc t.processed < 2 ^ 64
  pub forwarded : suc t.forwarded < 2 ^ 64
  pub reset : suc t.reset < 2 ^ 64
  pub dropped : suc t.dropped < 2 ^ 64
  pub stray : suc t.stray < 2 ^ 64
  pub after_its_end : suc t.after_its_end < 2 ^ 64

-- PLACES

-- the place of a flow among these, if it is one of them
abbrev pub place_in : List Flow → Flow → Option ℕ
place_in [] f = None
place_in (g ∷ flows) f =
    if same_flow g f then Some 0 else option_map (λ n. suc n) (place_in flows f)

-- the place of a segment's flow
abbrev pub place_of : List Flow → Option Segment → Option ℕ
place_of flows None = None
place_of flows (Some s) = place_in flows s.flow

-- for each record, in order, the place of its flow
abbrev pub places_of : List Record → List (Option ℕ)
places_of [] = []
places_of (r ∷ records) =
    places_of records ++ place_of (flows_of (r ∷ records)) (steerable (Some r)) ∷ []

abbrev pub known : Option (Option ℕ) → Option ℕ
known None = None
known (Some place) = place

-- the place of the packet of this number, counted from 1
abbrev pub packet_place : List (Option ℕ) → ℕ → Option ℕ
packet_place places zero = None
packet_place places (suc i) = known (slice_get places i)

-- these connections, with the one at a place changed
abbrev pub changed_at : (Connection → Connection) → List Connection → ℕ → List Connection
changed_at change [] n = []
changed_at change (c ∷ list) zero = change c ∷ list
changed_at change (c ∷ list) (suc n) = c ∷ changed_at change list n

-- each count of the connection at a place can take one more
abbrev pub HasRoomAt : List Connection → ℕ → Type 0
HasRoomAt [] n = Unit {0}
HasRoomAt (c ∷ list) zero = HasRoom c.tally
HasRoomAt (c ∷ list) (suc n) = HasRoomAt list n

-- the connection of each packet can count one arrival more
pub record HasRoomForEach (rows : Rows) : Type 0 where
  pub there : (k place : ℕ) → packet_place rows.places.items k ≡ Some place
      → place < length rows.connections.items
  pub room : (place : ℕ) → HasRoomAt rows.connections.items place

-- WHAT IS KEPT

-- the connection of a flow after these events, with its end by the records alone
abbrev pub row : Stage → List Record → List Event → Flow → Connection
row stage records past f =
    record (connection stage records past f) { ending = ending_seen records f }

-- one for each flow of these records
abbrev pub table : Stage → List Record → List Event → List Connection
table stage records past = map (row stage records past) (flows_of records)

-- these are the places of the records, which packets concern more than the farewell, and the
-- connections after these events
pub record AreRows (stage : Stage) (records : List Record) (past : List Event) (rows : Rows) :
    Type 0 where
  pub places : rows.places.items ≡ places_of records
  pub risky : rows.risky.items ≡ marks_by endings.is_risky records
  pub connections : rows.connections.items ≡ table stage records past

-- the connection of a flow by these records, before any event
abbrev pub seen : List Record → Flow → Connection
seen records f =
    seen_from f (first_seen records f) (last_seen records f) (ending_seen records f)

-- the same before any event, and the place of each flow
pub record IsSeen (records : List Record) (s : Seen) : Type 0 where
  pub places : s.rows.places.items ≡ places_of records
  pub risky : s.rows.risky.items ≡ marks_by endings.is_risky records
  pub connections : s.rows.connections.items ≡ map (seen records) (flows_of records)
  pub flows : (f : Flow)
      → tree.get (flow_order.ghosts).cmp s.flows f ≡ place_in (flows_of records) f
