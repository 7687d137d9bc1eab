-- Worked histories: which connections are left open while another server has their bucket, and by which change.
use Rattle.std.proofs.Common.{◌≡◌, ℕ, List, [], ◌∷◌, refl, reverse}
use Rattle.bm_base.specs.declared.label.Hop.TheVariants.{Direct}
use Rattle.bm_base.specs.Segments.{has_flag, is_opening}
use Rattle.bm_table.specs.declared.plan.Change.{Change}
use Rattle.bm_table.specs.declared.plan.Kind.TheVariants.{Shift}
use Rattle.bm_table.specs.Settings.{plain_setting}
use Rattle.bm_hash.specs.Buckets.{flow_octets, fnv_step, fnv_1a, flow_hash}
use Rattle.bm_core.specs.declared.events.Event.{Event}
use Rattle.bm_core.specs.declared.events.Stage.{Stage}
use Rattle.bm_core.specs.declared.events.Verdict.TheVariants.{Accept}
use Rattle.bm_core.proofs.Worked.{arrive, change_at, flow_from, move, publish, record_at, server, stage_of, steer}
use Rattle.bm_core.proofs.Worked.{switch, syn}
use Rattle.bm_connections.specs.declared.connection.Connection.{Connection}
use Rattle.bm_connections.specs.declared.left_open.OpenEnd.{OpenEnd}
use Rattle.bm_connections.specs.Connections.{connection}
use Rattle.bm_connections.specs.OpenEnds.{open_count, open_ends}
use Rattle.bm_connections.specs.Seen.{records_of}

-- a SYN at this moment, and the capture's last record at moment 2000, of another connection. The first one's bucket is
-- 4, which opens on server 2 of three.
abbrev stage : ℕ → List Change → Stage
stage opened changes =
    stage_of (record plain_setting { servers = server 1 ∷ server 2 ∷ server 3 ∷ [] }) changes []
    (record_at opened (syn 1000 100) ∷ record_at 2000 (syn 1001 100) ∷ [])

-- the connection after these events
abbrev told : Stage → List Event → List Connection
told s events = connection s (records_of s) (reverse events) (flow_from 1000) ∷ []

-- server 2 accepts it before the first change
abbrev accepted : List Event
accepted = steer 1 1 0 ∷ arrive 2 1 Direct 2 Accept ∷ []

abbrev end_of : ℕ → ℕ → OpenEnd
end_of change idle = record { change = change; connections = 1; longest_idle = idle }

-- the bucket leaves it twice and comes home each time
abbrev home : Stage
home = stage 0
    (change_at 500 Shift (move 4 3 ∷ []) ∷ change_at 600 Shift (move 4 2 ∷ []) ∷ change_at 700 Shift (move 4 1 ∷ [])
    ∷ change_at 800 Shift (move 4 2 ∷ []) ∷ [])

home_ends : (open_ends home (told home accepted) ≡ []) × (open_count home (told home accepted) ≡ 0)
unfolding has_flag is_opening flow_octets fnv_step fnv_1a flow_hash
home_ends = (refl, refl)

-- it comes home once, leaves again by the third change, and moves on by the fourth: the third counts
abbrev away : Stage
away = stage 0
    (change_at 500 Shift (move 4 3 ∷ []) ∷ change_at 600 Shift (move 4 2 ∷ []) ∷ change_at 700 Shift (move 4 1 ∷ [])
    ∷ change_at 800 Shift (move 4 3 ∷ []) ∷ [])

away_ends : (open_ends away (told away accepted) ≡ end_of 3 2000 ∷ []) × (open_count away (told away accepted) ≡ 1)
unfolding has_flag is_opening flow_octets fnv_step fnv_1a flow_hash
away_ends = (refl, refl)

-- a mux that lags steers a SYN by the table from before the change
abbrev lagging : Stage
lagging = stage 550 (change_at 500 Shift (move 4 3 ∷ []) ∷ [])

abbrev lagging_events : List Event
lagging_events = publish 501 1 ∷ steer 551 1 0 ∷ arrive 552 1 Direct 2 Accept ∷ switch 601 0 1 ∷ []

lagging_ends : open_ends lagging (told lagging lagging_events) ≡ end_of 1 1450 ∷ []
unfolding has_flag is_opening flow_octets fnv_step fnv_1a flow_hash
lagging_ends = refl

-- one that opens under the new table is at the server that has its bucket
abbrev later_events : List Event
later_events = publish 501 1 ∷ switch 502 0 1 ∷ steer 551 1 0 ∷ arrive 552 1 Direct 3 Accept ∷ []

later_ends : open_ends lagging (told lagging later_events) ≡ []
unfolding has_flag is_opening flow_octets fnv_step fnv_1a flow_hash
later_ends = refl
