-- What became of the packets of each flow, computed by looking back through events
-- (docs/DEFINITIONS.md). A past has its newest event first.
use Rattle.std.specs.Prelude.{ℕ, suc, Bool, false, ◌&&◌, ◌||◌, not, if◌then◌else◌, List, []}
use Rattle.std.specs.Prelude.{◌∷◌, map}
use Rattle.std.specs.Prelude.{Option, Some, None, is_some, option_map, reverse}
use Rattle.std.specs.Option.{option_map_or}
use Rattle.bm_base.specs.declared.capture.Record.{Record}
use Rattle.bm_base.specs.declared.flow.Flow.{Flow}
use Rattle.bm_base.specs.declared.ids.Moment.{Moment}
use Rattle.bm_base.specs.declared.ids.ServerId.{ServerId}
use Rattle.bm_base.specs.Segments.{RST, has_flag, is_opening, same_flow}
use Rattle.bm_core.specs.declared.events.Cause.{Cause}
use Rattle.bm_core.specs.declared.events.Event.{Event}
use Rattle.bm_core.specs.declared.events.History.{History}
use Rattle.bm_core.specs.declared.events.Stage.{Stage}
use Rattle.bm_core.specs.declared.events.Verdict.{Verdict}
use Rattle.bm_core.specs.declared.events.What.{What}
use Rattle.bm_core.specs.declared.events.What.TheVariants.{Arrive, Close}
use Rattle.bm_core.specs.Causes.{cause, is_process}
use Rattle.bm_core.specs.Past.{accept_of, ends, is_accept, is_forward, is_of, segment_of}
use Rattle.bm_trace.specs.CauseOf.{is_break}
use Rattle.bm_trace.specs.Totals.{arrives, is_drop, is_reset, is_stray}
use Rattle.bm_connections.specs.declared.connection.Break.{Break}
use Rattle.bm_connections.specs.declared.connection.Connection.{Connection}
use Rattle.bm_connections.specs.declared.connection.Ending.{Ending}
use Rattle.bm_connections.specs.declared.connection.Ending.TheVariants.{Close as ByClose, Reset}
use Rattle.bm_connections.specs.declared.connection.Forwarding.{Forwarding}
use Rattle.bm_connections.specs.declared.connection.Tally.{Tally}
use Rattle.bm_connections.specs.Endings.{ending_seen, is_risky, is_segment_with, of_packet}
use Rattle.bm_connections.specs.Seen.{first_seen, flows_of, last_seen, records_of}
use Rattle.bm_connections.specs.Waits.{wait}

-- WHICH BREAKS COUNT

-- an RST of the flow arrives, and the server that takes it ends the connection. It isn't a stray:
-- that one ends another connection, with the same addresses and ports, that its server holds
abbrev pub is_end : Stage → Flow → List Event → What → Bool
is_end stage f past (Arrive k hop server verdict) =
    is_segment_with (has_flag RST) (segment_of stage k) f
    && (ends verdict && not (is_stray stage past (Arrive k hop server verdict)))
is_end stage f past _ = false

-- a packet arrives that opens the flow
abbrev pub is_beginning : Stage → Flow → What → Bool
is_beginning stage f (Arrive k hop server verdict) =
    is_segment_with is_opening (segment_of stage k) f
is_beginning stage f _ = false

-- an RST ended the flow's connection, and no packet has opened it since
abbrev pub is_ended : Stage → Flow → List Event → Bool
is_ended stage f [] = false
is_ended stage f (e ∷ past) =
    is_end stage f past e.what || not (is_beginning stage f e.what) && is_ended stage f past

-- a packet arrives that doesn't open its flow, after an RST ended the flow's connection
abbrev pub is_after_end : Stage → List Event → What → Bool
is_after_end stage past (Arrive k hop server verdict) =
    option_map_or (λ s. not (is_opening s) && is_ended stage s.flow past)
    (segment_of stage k) false
is_after_end stage past _ = false

-- a packet is dropped, reset or a stray, and its connection hadn't ended itself
abbrev pub counts : Stage → List Event → What → Bool
counts stage past what = is_break stage past what && not (is_after_end stage past what)

-- the same, but it had
abbrev pub breaks_nothing : Stage → List Event → What → Bool
breaks_nothing stage past what = is_break stage past what && is_after_end stage past what

-- its cause
abbrev pub counted_cause : Stage → List Event → Event → Option Cause
counted_cause stage past e =
    if counts stage past e.what then cause stage past e.clock.0 e.what else None

-- HOW MANY

-- the event is an arrival of a packet of the flow
abbrev pub is_arrival_for : Stage → Flow → What → Bool
is_arrival_for stage f (Arrive k hop server verdict) = is_of (segment_of stage k) f
is_arrival_for stage f _ = false

-- one more, if so holds
abbrev pub one_more : Bool → ℕ → ℕ
one_more so n = if so then suc n else n

-- how many arrivals of the flow's packets have a verdict of this kind
abbrev pub arrivals : Stage → Flow → (Verdict → Bool) → List Event → ℕ
arrivals stage f kind [] = 0
arrivals stage f kind (e ∷ past) =
    one_more (is_arrival_for stage f e.what && arrives kind e.what) (arrivals stage f kind past)

-- how many arrivals of the flow's packets are strays
abbrev pub strays_for : Stage → Flow → List Event → ℕ
strays_for stage f [] = 0
strays_for stage f (e ∷ past) =
    one_more (is_arrival_for stage f e.what && is_stray stage past e.what) (strays_for stage f past)

-- how many arrivals of the flow's packets are dropped, reset or strays without being counted
abbrev pub after_its_end : Stage → Flow → List Event → ℕ
after_its_end stage f [] = 0
after_its_end stage f (e ∷ past) =
    one_more (is_arrival_for stage f e.what && breaks_nothing stage past e.what)
    (after_its_end stage f past)

-- how many arrivals had each verdict, how many were strays, and how many breaks don't count
abbrev pub tally : Stage → Flow → List Event → Tally
tally stage f past = record {
  accepted = arrivals stage f is_accept past;
  processed = arrivals stage f is_process past;
  forwarded = arrivals stage f is_forward past;
  reset = arrivals stage f is_reset past;
  dropped = arrivals stage f is_drop past;
  stray = strays_for stage f past;
  after_its_end = after_its_end stage f past;
}

-- WHAT BROKE

-- the server that accepted the flow last
abbrev pub acceptor : Stage → Flow → List Event → Option ServerId
acceptor stage f past = option_map (λ a. a.server) (accept_of stage past f)

-- a break of the flow counts and comes after the flow was accepted
abbrev pub breaks : Stage → Flow → List Event → What → Bool
breaks stage f past what =
    is_arrival_for stage f what && counts stage past what && is_some (acceptor stage f past)

-- an arrival as a break: its packet, clock, server and verdict, with this cause
abbrev pub as_break : Moment → What → Option Cause → Option Break
as_break clock (Arrive k hop server verdict) why = Some (record {
  packet = k;
  clock = clock;
  server = server;
  verdict = verdict;
  cause = why;
})
as_break clock _ why = None

-- the first, if there is one, and otherwise the second
abbrev pub first_of_two : Option Break → Option Break → Option Break
first_of_two None later = later
first_of_two (Some b) later = Some b

-- the first packet that broke the flow
abbrev pub breakage : Stage → Flow → List Event → Option Break
breakage stage f [] = None
breakage stage f (e ∷ past) =
    first_of_two (breakage stage f past)
    (if breaks stage f past e.what
    then as_break e.clock e.what (cause stage past e.clock.0 e.what)
    else None)

-- the event is an arrival of a packet that concerns more than the farewell
abbrev pub risks_data : Stage → What → Bool
risks_data stage (Arrive k hop server verdict) = of_packet is_risky (records_of stage) k
risks_data stage _ = false

-- such a packet broke the flow
abbrev pub loses_data : Stage → Flow → List Event → Bool
loses_data stage f [] = false
loses_data stage f (e ∷ past) =
    breaks stage f past e.what && risks_data stage e.what || loses_data stage f past

-- WHAT REFUSED

-- the first break of the flow that counts
abbrev pub first_break : Stage → Flow → List Event → Option Break
first_break stage f [] = None
first_break stage f (e ∷ past) =
    first_of_two (first_break stage f past)
    (if is_arrival_for stage f e.what && counts stage past e.what
    then as_break e.clock e.what (cause stage past e.clock.0 e.what)
    else None)

-- the same, if no server accepted the flow
abbrev pub refusal : Stage → Flow → List Event → Option Break
refusal stage f past =
    if is_some (acceptor stage f past) then None else first_break stage f past

-- WHAT WAS FORWARDED

-- an arrival as a forwarding: its packet, clock and server, and how long it came after its bucket
-- left the server to which it may be passed on
abbrev pub as_forwarding : Stage → List Event → Moment → What → Option Forwarding
as_forwarding stage past clock (Arrive k hop server verdict) =
    Some (record {
      packet = k;
      clock = clock;
      server = server;
      wait = wait stage past clock.0 hop k;
    })
as_forwarding stage past clock _ = None

-- the last packet of the flow that was forwarded
abbrev pub last_forwarding : Stage → Flow → List Event → Option Forwarding
last_forwarding stage f [] = None
last_forwarding stage f (e ∷ past) =
    if is_arrival_for stage f e.what && arrives is_forward e.what
    then as_forwarding stage past e.clock e.what
    else last_forwarding stage f past

-- WHAT ENDED IT

-- a `close` has closed the flow after the event, which comes after this
abbrev pub closed_by : Stage → Flow → What → Bool → Bool
closed_by stage f (Arrive k hop server verdict) before =
    not (is_accept verdict && is_of (segment_of stage k) f) && before
closed_by stage f (Close server flow closed) before = same_flow flow f && closed || before
closed_by stage f _ before = before

-- a `close` closed the flow after its last Accept
abbrev pub is_closed : Stage → Flow → List Event → Bool
is_closed stage f [] = false
is_closed stage f (e ∷ past) = closed_by stage f e.what (is_closed stage f past)

-- a `close` ended the connection, or else an RST, or else what the records show
abbrev pub ending : Stage → List Record → List Event → Flow → Ending
ending stage records past f =
    if is_closed stage f past then ByClose
    else if is_ended stage f past then Reset else ending_seen records f

-- THE TABLE

-- the connection of a flow, after these records and these events
abbrev pub connection : Stage → List Record → List Event → Flow → Connection
connection stage records past f = record {
  flow = f;
  first = first_seen records f;
  last = last_seen records f;
  ending = ending stage records past f;
  server = acceptor stage f past;
  tally = tally stage f past;
  forwarded = last_forwarding stage f past;
  broken = breakage stage f past;
  refused = refusal stage f past;
  losing_data = loses_data stage f past;
}

-- the connection of a flow in a history
abbrev pub connection_in : History → Flow → Connection
connection_in h f = connection h.stage (records_of h.stage) (reverse h.events) f

-- a connection for each flow of the capture, in the order of their first packets
abbrev pub connections : History → List Connection
connections h = map (connection_in h) (flows_of (records_of h.stage))
