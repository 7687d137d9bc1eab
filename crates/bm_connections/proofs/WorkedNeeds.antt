-- Worked histories: how long the old servers are needed, and which third change came too soon. WorkedMoves of bm_core
-- has the replays of the first two stages.
use Rattle.std.proofs.Common.{◌≡◌, ◌^◌, ℕ, List, [], ◌∷◌, Option, Some, None, refl, reverse}
use Rattle.bm_base.specs.declared.label.Hop.TheVariants.{Direct, Chained, Twice}
use Rattle.bm_base.specs.declared.receive.Taken.TheVariants.{Advance, Ended}
use Rattle.bm_base.specs.Segments.{has_flag, is_opening}
use Rattle.bm_table.specs.declared.plan.Kind.TheVariants.{Drain, Shift}
use Rattle.bm_table.specs.declared.plan.Retirement.TheVariants.{Done}
use Rattle.bm_table.specs.Settings.{plain_setting}
use Rattle.bm_hash.specs.Buckets.{flow_octets, fnv_step, fnv_1a, flow_hash}
use Rattle.bm_core.specs.declared.events.Cause.{Cause}
use Rattle.bm_core.specs.declared.events.Cause.TheVariants.{MovedThrice}
use Rattle.bm_core.specs.declared.events.Event.{Event}
use Rattle.bm_core.specs.declared.events.Stage.{Stage}
use Rattle.bm_core.specs.declared.events.Verdict.TheVariants.{Accept, Process, Forward, Reset}
use Rattle.bm_core.specs.declared.events.Why.TheVariants.{ChainExpired, ChainedUnknown}
use Rattle.bm_core.specs.Causes.{cause}
use Rattle.bm_core.proofs.Worked.{server, flow_from, syn, data_of, rst, record_at, move, change_at, stage_of, publish}
use Rattle.bm_core.proofs.Worked.{switch, steer, arrive, retire}
use Rattle.bm_core.proofs.WorkedMoves.{moved_twice}
use Rattle.bm_connections.specs.declared.needs.Need.{Need}
use Rattle.bm_connections.specs.Late.{longest_wait}
use Rattle.bm_connections.specs.Needed.{all_changes, longest_of_server}
use Rattle.bm_connections.specs.Thrice.{all_thirds}

-- the cause of the last of these events
abbrev newest_cause : Stage → List Event → Option Cause
newest_cause stage [] = None
newest_cause stage (e ∷ past) = cause stage past e.clock.0 e.what

abbrev cause_of : Stage → List Event → Option Cause
cause_of stage events = newest_cause stage (reverse events)

-- a need of the connection from port 1000
abbrev need : ℕ → ℕ → Need
need time clock = record { time = time; clock = record { 0 = clock }; flow = flow_from 1000 }

-- CHANGES

-- two moves: the direct copy goes on because of the second, the chained one because of the first
abbrev twice : List Event
twice = steer 1 1 0
    ∷ arrive 2 1 Direct 2 Accept
    ∷ publish 501 1
    ∷ switch 502 0 1
    ∷ publish 601 2
    ∷ switch 602 0 2
    ∷ steer 1001 2 0
    ∷ arrive 1002 2 Direct 1 (Forward (server 3))
    ∷ arrive 1003 2 Chained 3 (Forward (server 2))
    ∷ arrive 1004 2 Twice 2 (Process Advance)
    ∷ []

twice_needed : all_changes moved_twice (reverse twice)
    ≡ record { change = 1; need = need 503 1003 } ∷ record { change = 2; need = need 402 1002 } ∷ []
unfolding has_flag is_opening flow_octets fnv_step fnv_1a flow_hash
twice_needed = refl

-- with two moves no third change came too soon
twice_thirds : all_thirds moved_twice (reverse twice) ≡ []
unfolding has_flag is_opening flow_octets fnv_step fnv_1a flow_hash
twice_thirds = refl

-- THIRD CHANGES

-- three moves: the last packet is of moment 1000, the third change of moment 700, so 301 ns later is enough
abbrev moved_thrice : Stage
moved_thrice =
    stage_of (record plain_setting { servers = server 1 ∷ server 2 ∷ server 3 ∷ [] })
    (change_at 500 Shift (move 4 3 ∷ []) ∷ change_at 600 Shift (move 4 1 ∷ [])
    ∷ change_at 700 Shift (move 4 3 ∷ []) ∷ []) []
    (record_at 0 (syn 1000 100) ∷ record_at 1000 (data_of 1000 101 10) ∷ [])

abbrev thrice : List Event
thrice = steer 1 1 0
    ∷ arrive 2 1 Direct 2 Accept
    ∷ publish 501 1
    ∷ switch 502 0 1
    ∷ publish 601 2
    ∷ switch 602 0 2
    ∷ publish 701 3
    ∷ switch 702 0 3
    ∷ steer 1001 2 0
    ∷ arrive 1002 2 Direct 3 (Forward (server 1))
    ∷ arrive 1003 2 Chained 1 (Forward (server 3))
    ∷ arrive 1004 2 Twice 3 (Reset ChainedUnknown)
    ∷ []

thrice_thirds : all_thirds moved_thrice (reverse thrice)
    ≡ record { first = 1; second = 2; third = 3; need = need 301 1004 } ∷ []
unfolding has_flag is_opening flow_octets fnv_step fnv_1a flow_hash
thrice_thirds = refl

-- four moves: it is the third that takes the owner's server out of the label
abbrev moved_often : Stage
moved_often =
    stage_of (record plain_setting { servers = server 1 ∷ server 2 ∷ server 3 ∷ [] })
    (change_at 500 Shift (move 4 3 ∷ []) ∷ change_at 600 Shift (move 4 1 ∷ [])
    ∷ change_at 700 Shift (move 4 3 ∷ []) ∷ change_at 800 Shift (move 4 1 ∷ []) ∷ []) []
    (record_at 0 (syn 1000 100) ∷ record_at 1000 (data_of 1000 101 10) ∷ [])

abbrev often : List Event
often = steer 1 1 0
    ∷ arrive 2 1 Direct 2 Accept
    ∷ publish 501 1
    ∷ switch 502 0 1
    ∷ publish 601 2
    ∷ switch 602 0 2
    ∷ publish 701 3
    ∷ switch 702 0 3
    ∷ publish 801 4
    ∷ switch 802 0 4
    ∷ steer 1001 2 0
    ∷ arrive 1002 2 Direct 1 (Forward (server 3))
    ∷ arrive 1003 2 Chained 3 (Forward (server 1))
    ∷ arrive 1004 2 Twice 1 (Reset ChainedUnknown)
    ∷ []

often_thirds : all_thirds moved_often (reverse often)
    ≡ record { first = 1; second = 2; third = 3; need = need 301 1004 } ∷ []
unfolding has_flag is_opening flow_octets fnv_step fnv_1a flow_hash
often_thirds = refl

-- five moves: the bucket comes home by the second, so the third, fourth and fifth count
abbrev came_home : Stage
came_home =
    stage_of (record plain_setting { servers = server 1 ∷ server 2 ∷ server 3 ∷ [] })
    (change_at 500 Shift (move 4 3 ∷ []) ∷ change_at 600 Shift (move 4 2 ∷ [])
    ∷ change_at 700 Shift (move 4 3 ∷ []) ∷ change_at 800 Shift (move 4 1 ∷ [])
    ∷ change_at 900 Shift (move 4 3 ∷ []) ∷ []) []
    (record_at 0 (syn 1000 100) ∷ record_at 1000 (data_of 1000 101 10) ∷ [])

abbrev home : List Event
home = steer 1 1 0
    ∷ arrive 2 1 Direct 2 Accept
    ∷ publish 501 1 ∷ switch 502 0 1
    ∷ publish 601 2 ∷ switch 602 0 2
    ∷ publish 701 3 ∷ switch 702 0 3
    ∷ publish 801 4 ∷ switch 802 0 4
    ∷ publish 901 5 ∷ switch 902 0 5
    ∷ steer 1001 2 0
    ∷ arrive 1002 2 Direct 3 (Forward (server 1))
    ∷ arrive 1003 2 Chained 1 (Forward (server 3))
    ∷ arrive 1004 2 Twice 3 (Reset ChainedUnknown)
    ∷ []

home_thirds : all_thirds came_home (reverse home)
    ≡ record { first = 3; second = 4; third = 5; need = need 101 1004 } ∷ []
unfolding has_flag is_opening flow_octets fnv_step fnv_1a flow_hash
home_thirds = refl

-- the third move is the first since it came home: the packet came too late for a forward, and no third change too soon
abbrev still_named : Stage
still_named =
    stage_of (record plain_setting { servers = server 1 ∷ server 2 ∷ server 3 ∷ []; timeout = 10 ^ 9 })
    (change_at 500 Shift (move 4 3 ∷ []) ∷ change_at 600 Shift (move 4 2 ∷ [])
    ∷ change_at 700 Shift (move 4 1 ∷ []) ∷ []) []
    (record_at 0 (syn 1000 100) ∷ record_at 3000000000 (data_of 1000 101 10) ∷ [])

abbrev named : List Event
named = steer 1 1 0
    ∷ arrive 2 1 Direct 2 Accept
    ∷ publish 501 1 ∷ switch 502 0 1
    ∷ publish 601 2 ∷ switch 602 0 2
    ∷ publish 701 3 ∷ switch 702 0 3
    ∷ steer 3000000001 2 0
    ∷ arrive 3000000002 2 Direct 1 (Reset ChainExpired)
    ∷ []

-- so it counts among those that came too late
named_thirds : (cause_of still_named named ≡ Some MovedThrice) × (all_thirds still_named (reverse named) ≡ [])
    × (longest_wait still_named (reverse named) ≡ Some 2999999302)
unfolding has_flag is_opening flow_octets fnv_step fnv_1a flow_hash
named_thirds = (refl, refl, refl)

-- RETIREMENTS

-- a server retires while it holds a connection, and a packet of the connection comes a second later
abbrev drained : Stage
drained =
    stage_of (record plain_setting { shards = 1; timeout = 10 ^ 9 })
    (change_at 500 (Drain (server 1)) (move 0 2 ∷ move 2 2 ∷ move 4 2 ∷ move 6 2 ∷ []) ∷ []) []
    (record_at 0 (syn 1000 100) ∷ record_at 100 (rst 1000 101) ∷ record_at 3000000000 (data_of 1000 101 10) ∷ [])

abbrev early : List Event
early = steer 1 1 0
    ∷ arrive 2 1 Direct 1 Accept
    ∷ publish 501 1
    ∷ switch 502 0 1
    ∷ retire 2000000001 1 0 2000000000 Done
    ∷ steer 3000000001 3 0
    ∷ arrive 3000000002 3 Direct 2 (Reset ChainExpired)
    ∷ []

early_needed : longest_of_server drained (reverse early) 1 ≡ Some (need 1000000002 3000000002)
unfolding has_flag is_opening flow_octets fnv_step fnv_1a flow_hash
early_needed = refl

-- the connection has ended before, so the server isn't needed
abbrev ended : List Event
ended = steer 1 1 0
    ∷ arrive 2 1 Direct 1 Accept
    ∷ steer 101 2 0
    ∷ arrive 102 2 Direct 1 (Process Ended)
    ∷ publish 501 1
    ∷ switch 502 0 1
    ∷ retire 2000000001 1 0 2000000000 Done
    ∷ steer 3000000001 3 0
    ∷ arrive 3000000002 3 Direct 2 (Reset ChainExpired)
    ∷ []

ended_needed : longest_of_server drained (reverse ended) 1 ≡ None
unfolding has_flag is_opening flow_octets fnv_step fnv_1a flow_hash
ended_needed = refl
