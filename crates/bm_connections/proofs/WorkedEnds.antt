-- How connections end, worked on the events of small replays: an RST that comes twice, one that is ignored, dropped or a
-- stray, a port that is used again, a `close`, and what is lost with a break.
use Rattle.std.proofs.Common.{◌≡◌, ◌^◌, ℕ, true, false, List, [], ◌∷◌, ◌++◌, None, is_some, reverse, refl}
use Rattle.bm_base.specs.declared.flow.Segment.{Segment}
use Rattle.bm_base.specs.declared.label.Hop.TheVariants.{Direct}
use Rattle.bm_base.specs.declared.receive.Taken.TheVariants.{Advance, Ended, Outside}
use Rattle.bm_base.specs.Segments.{has_flag, is_opening}
use Rattle.bm_table.specs.declared.plan.Kind.TheVariants.{Shift}
use Rattle.bm_table.specs.Settings.{plain_setting}
use Rattle.bm_hash.specs.Buckets.{flow_octets, fnv_step, fnv_1a, flow_hash}
use Rattle.bm_core.specs.declared.events.Cause.TheVariants.{ChainLate, NotHeld}
use Rattle.bm_core.specs.declared.events.Event.{Event}
use Rattle.bm_core.specs.declared.events.Stage.{Stage}
use Rattle.bm_core.specs.declared.events.Verdict.TheVariants.{Accept, Process, Reset, Drop}
use Rattle.bm_core.specs.declared.events.What.TheVariants.{Close}
use Rattle.bm_core.specs.declared.events.Why.TheVariants.{ChainExpired, NoPrevious, Silent}
use Rattle.bm_core.proofs.Worked.{arrive, at, change_at, data_of, fin, flow_from, move, publish, record_at, rst, server}
use Rattle.bm_core.proofs.Worked.{stage_of, steer, switch, syn}
use Rattle.bm_connections.specs.declared.connection.Connection.{Connection}
use Rattle.bm_connections.specs.declared.connection.Ending.TheVariants.{Open, Fin, Reset as ByReset, Close as ByClose}
use Rattle.bm_connections.specs.AfterEnd.{packets_after_end}
use Rattle.bm_connections.specs.Connections.{connection}
use Rattle.bm_connections.specs.Counts.{packets_by}
use Rattle.bm_connections.specs.Seen.{records_of}

-- the connection after these events
abbrev told : Stage → List Event → Connection
told stage events = connection stage (records_of stage) (reverse events) (flow_from 1000)

-- a segment without data
abbrev ack_of : ℕ → ℕ → Segment
ack_of port seq = record { flow = flow_from port; seq = seq; ack = 501; len = 0; flags = 0x10 }

-- server 1 closes the connection
abbrev close_at : ℕ → Event
close_at clock = at clock (Close (server 1) (flow_from 1000) true)

-- an RST comes twice, and data after it: the server holds nothing then
abbrev doubled : Stage
doubled = stage_of plain_setting [] []
    (record_at 0 (syn 1000 100) ∷ record_at 1000 (data_of 1000 101 10) ∷ record_at 2000 (rst 1000 111)
    ∷ record_at 3000 (rst 1000 111) ∷ record_at 4000 (data_of 1000 111 10) ∷ [])

abbrev doubled_events : List Event
doubled_events =
    steer 1 1 0 ∷ arrive 2 1 Direct 1 Accept
    ∷ steer 1001 2 0 ∷ arrive 1002 2 Direct 1 (Process Advance)
    ∷ steer 2001 3 0 ∷ arrive 2002 3 Direct 1 (Process Ended)
    ∷ steer 3001 4 0 ∷ arrive 3002 4 Direct 1 (Drop Silent)
    ∷ steer 4001 5 0 ∷ arrive 4002 5 Direct 1 (Reset NoPrevious) ∷ []

-- both arrivals break nothing, and are counted apart
doubled_told : ((told doubled doubled_events).ending ≡ ByReset)
    × ((told doubled doubled_events).broken ≡ None)
    × ((told doubled doubled_events).losing_data ≡ false)
    × ((told doubled doubled_events).tally.after_its_end ≡ 2)
    × ((told doubled doubled_events).tally.dropped ≡ 1)
    × ((told doubled doubled_events).tally.reset ≡ 1)
    × (packets_by doubled NotHeld (reverse doubled_events) ≡ 0)
unfolding has_flag is_opening flow_octets fnv_step fnv_1a flow_hash
doubled_told = (refl, refl, refl, refl, refl, refl, refl)

-- the server processes an RST as outside its window and goes on, until a command closes the connection
abbrev ignored : Stage
ignored = stage_of plain_setting [] []
    (record_at 0 (syn 1000 100) ∷ record_at 1000 (rst 1000 90000) ∷ record_at 2000 (data_of 1000 101 10) ∷ [])

abbrev ignored_events : List Event
ignored_events =
    steer 1 1 0 ∷ arrive 2 1 Direct 1 Accept
    ∷ steer 1001 2 0 ∷ arrive 1002 2 Direct 1 (Process Outside) ∷ close_at 1501
    ∷ steer 2001 3 0 ∷ arrive 2002 3 Direct 1 (Reset NoPrevious) ∷ []

-- what breaks after that counts
ignored_told : (is_some (told ignored ignored_events).broken ≡ true)
    × ((told ignored ignored_events).losing_data ≡ true)
    × ((told ignored ignored_events).tally.after_its_end ≡ 0)
    × (packets_by ignored NotHeld (reverse ignored_events) ≡ 1)
unfolding has_flag is_opening flow_octets fnv_step fnv_1a flow_hash
ignored_told = (refl, refl, refl, refl)

-- an ignored RST is no end
not_ended : (told ignored (steer 1 1 0 ∷ arrive 2 1 Direct 1 Accept
    ∷ steer 1001 2 0 ∷ arrive 1002 2 Direct 1 (Process Outside) ∷ [])).ending ≡ Open
unfolding has_flag is_opening flow_octets fnv_step fnv_1a flow_hash
not_ended = refl

-- they are all that is told of apart
doubled_apart : packets_after_end doubled (reverse doubled_events) ≡ 2
unfolding has_flag is_opening flow_octets fnv_step fnv_1a flow_hash
doubled_apart = refl

-- the bucket moves, and an RST that comes later than the timeout is dropped: server 1 never gets it
abbrev given_up : Stage
given_up =
    stage_of (record plain_setting { timeout = 10 ^ 9 }) (change_at 500 Shift (move 4 2 ∷ []) ∷ []) []
    (record_at 0 (syn 1000 100) ∷ record_at 3000000000 (rst 1000 101) ∷ record_at 3000001000 (data_of 1000 101 10) ∷ [])

abbrev first_reset : List Event
first_reset =
    steer 1 1 0 ∷ arrive 2 1 Direct 1 Accept ∷ publish 501 1 ∷ switch 502 0 1
    ∷ steer 3000000001 2 0 ∷ arrive 3000000002 2 Direct 2 (Drop Silent) ∷ []

-- that is a break, but of the farewell alone
first_reset_told : ((told given_up first_reset).ending ≡ Open)
    × (is_some (told given_up first_reset).broken ≡ true)
    × ((told given_up first_reset).losing_data ≡ false)
    × ((told given_up first_reset).tally.after_its_end ≡ 0)
unfolding has_flag is_opening flow_octets fnv_step fnv_1a flow_hash
first_reset_told = (refl, refl, refl, refl)

abbrev given_up_events : List Event
given_up_events = first_reset ++ steer 3000001001 3 0 ∷ arrive 3000001002 3 Direct 2 (Reset ChainExpired) ∷ []

-- so it hides nothing of what comes after it
given_up_told : ((told given_up given_up_events).losing_data ≡ true)
    × ((told given_up given_up_events).tally.after_its_end ≡ 0)
    × (packets_by given_up ChainLate (reverse given_up_events) ≡ 2)
unfolding has_flag is_opening flow_octets fnv_step fnv_1a flow_hash
given_up_told = (refl, refl, refl)

-- a port is used again at server 2 and the bucket comes home: server 1 takes an RST for the connection that it holds
abbrev elsewhere : Stage
elsewhere =
    stage_of (record plain_setting { timeout = 10 ^ 9 })
    (change_at 500 Shift (move 4 2 ∷ []) ∷ change_at 1500 Shift (move 4 1 ∷ []) ∷ []) []
    (record_at 0 (syn 1000 100) ∷ record_at 1000 (syn 1000 900) ∷ record_at 2000 (rst 1000 101)
    ∷ record_at 3000000000 (data_of 1000 901 10) ∷ [])

abbrev elsewhere_events : List Event
elsewhere_events =
    steer 1 1 0 ∷ arrive 2 1 Direct 1 Accept ∷ publish 501 1 ∷ switch 502 0 1
    ∷ steer 1001 2 0 ∷ arrive 1002 2 Direct 2 Accept ∷ publish 1501 2 ∷ switch 1502 0 2
    ∷ steer 2001 3 0 ∷ arrive 2002 3 Direct 1 (Process Ended)
    ∷ steer 3000000001 4 0 ∷ arrive 3000000002 4 Direct 1 (Reset ChainExpired) ∷ []

-- the stray ends nothing, so the data that is reset later counts
elsewhere_told : ((told elsewhere elsewhere_events).ending ≡ Open)
    × ((told elsewhere elsewhere_events).tally.stray ≡ 1)
    × ((told elsewhere elsewhere_events).tally.after_its_end ≡ 0)
    × (packets_by elsewhere ChainLate (reverse elsewhere_events) ≡ 1)
unfolding has_flag is_opening flow_octets fnv_step fnv_1a flow_hash
elsewhere_told = (refl, refl, refl, refl)

-- a port is used again after an RST
abbrev again : Stage
again = stage_of plain_setting [] []
    (record_at 0 (syn 1000 100) ∷ record_at 1000 (rst 1000 101) ∷ record_at 2000 (syn 1000 500)
    ∷ record_at 3000 (data_of 1000 501 10) ∷ [])

abbrev again_events : List Event
again_events =
    steer 1 1 0 ∷ arrive 2 1 Direct 1 Accept
    ∷ steer 1001 2 0 ∷ arrive 1002 2 Direct 1 (Process Ended)
    ∷ steer 2001 3 0 ∷ arrive 2002 3 Direct 1 Accept
    ∷ steer 3001 4 0 ∷ arrive 3002 4 Direct 1 (Process Advance) ∷ []

again_told : ((told again again_events).ending ≡ Open)
    × ((told again again_events).tally.after_its_end ≡ 0)
    × ((told again again_events).tally.accepted ≡ 2)
unfolding has_flag is_opening flow_octets fnv_step fnv_1a flow_hash
again_told = (refl, refl, refl)

-- a connection is closed, and its data then breaks it
abbrev closed : Stage
closed = stage_of plain_setting [] []
    (record_at 0 (syn 1000 100) ∷ record_at 1000 (data_of 1000 101 10) ∷ [])

abbrev closed_events : List Event
closed_events =
    steer 1 1 0 ∷ arrive 2 1 Direct 1 Accept ∷ close_at 501
    ∷ steer 1001 2 0 ∷ arrive 1002 2 Direct 1 (Reset NoPrevious) ∷ []

closed_told : ((told closed closed_events).ending ≡ ByClose)
    × (is_some (told closed closed_events).broken ≡ true)
    × ((told closed closed_events).losing_data ≡ true)
    × (packets_by closed NotHeld (reverse closed_events) ≡ 1)
unfolding has_flag is_opening flow_octets fnv_step fnv_1a flow_hash
closed_told = (refl, refl, refl, refl)

-- it is accepted again after the close, and its client ends it
abbrev accepted_again : Stage
accepted_again = stage_of plain_setting [] []
    (record_at 0 (syn 1000 100) ∷ record_at 1000 (syn 1000 900) ∷ record_at 2000 (fin 1000 901) ∷ [])

again_after_close : (told accepted_again
    (steer 1 1 0 ∷ arrive 2 1 Direct 1 Accept ∷ close_at 501 ∷ steer 1001 2 0 ∷ arrive 1002 2 Direct 1 Accept
    ∷ steer 2001 3 0 ∷ arrive 2002 3 Direct 1 (Process Advance) ∷ [])).ending ≡ Fin
unfolding has_flag is_opening flow_octets fnv_step fnv_1a flow_hash
again_after_close = refl

-- only a FIN is lost, after an ACK without data
abbrev farewell : Stage
farewell = stage_of plain_setting [] []
    (record_at 0 (syn 1000 100) ∷ record_at 1000 (data_of 1000 101 10) ∷ record_at 2000 (ack_of 1000 111)
    ∷ record_at 3000 (fin 1000 111) ∷ [])

abbrev farewell_events : List Event
farewell_events =
    steer 1 1 0 ∷ arrive 2 1 Direct 1 Accept
    ∷ steer 1001 2 0 ∷ arrive 1002 2 Direct 1 (Process Advance)
    ∷ steer 2001 3 0 ∷ arrive 2002 3 Direct 1 (Process Advance)
    ∷ close_at 2501
    ∷ steer 3001 4 0 ∷ arrive 3002 4 Direct 1 (Reset NoPrevious) ∷ []

farewell_told : (is_some (told farewell farewell_events).broken ≡ true)
    × ((told farewell farewell_events).losing_data ≡ false)
unfolding has_flag is_opening flow_octets fnv_step fnv_1a flow_hash
farewell_told = (refl, refl)

-- the ACK that is lost comes right after data
abbrev acknowledged : Stage
acknowledged = stage_of plain_setting [] []
    (record_at 0 (syn 1000 100) ∷ record_at 1000 (data_of 1000 101 10) ∷ record_at 2000 (ack_of 1000 111) ∷ [])

abbrev acknowledged_events : List Event
acknowledged_events =
    steer 1 1 0 ∷ arrive 2 1 Direct 1 Accept
    ∷ steer 1001 2 0 ∷ arrive 1002 2 Direct 1 (Process Advance)
    ∷ close_at 1501
    ∷ steer 2001 3 0 ∷ arrive 2002 3 Direct 1 (Reset NoPrevious) ∷ []

acknowledged_told : (is_some (told acknowledged acknowledged_events).broken ≡ true)
    × ((told acknowledged acknowledged_events).losing_data ≡ true)
unfolding has_flag is_opening flow_octets fnv_step fnv_1a flow_hash
acknowledged_told = (refl, refl)

-- the ACK that is lost is in the middle of a connection whose client sent no data, as in a download
abbrev download : Stage
download = stage_of plain_setting [] []
    (record_at 0 (syn 1000 100) ∷ record_at 1000 (ack_of 1000 101) ∷ record_at 2000 (fin 1000 101) ∷ [])

abbrev download_events : List Event
download_events =
    steer 1 1 0 ∷ arrive 2 1 Direct 1 Accept ∷ close_at 501
    ∷ steer 1001 2 0 ∷ arrive 1002 2 Direct 1 (Reset NoPrevious) ∷ []

download_told : (is_some (told download download_events).broken ≡ true)
    × ((told download download_events).losing_data ≡ true)
unfolding has_flag is_opening flow_octets fnv_step fnv_1a flow_hash
download_told = (refl, refl)
