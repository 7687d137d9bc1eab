-- Copies that are lost and repeated, a shard that is full, and connections that are closed.
use Rattle.std.proofs.Common.{◌≡◌, [], ◌∷◌, Some, None, refl}
use Rattle.std.specs.Prelude.{reverse}
use Rattle.bm_base.specs.declared.label.Hop.TheVariants.{Direct}
use Rattle.bm_base.specs.declared.receive.Taken.TheVariants.{Advance, Duplicate}
use Rattle.bm_base.specs.Segments.{has_flag, is_opening}
use Rattle.bm_table.specs.declared.script.Command.TheVariants.{Close as CloseCommand}
use Rattle.bm_table.specs.Settings.{plain_setting}
use Rattle.bm_hash.specs.Buckets.{flow_octets, fnv_step, fnv_1a, flow_hash}
use Rattle.bm_seq.specs.Receivers.{acceptable, distance, taken_reset, comes_in_turn, taken, after_taken, opened}
use Rattle.bm_seq.specs.Receivers.{receiver_after}
use Rattle.bm_core.specs.declared.events.Cause.TheVariants.{NotHeld, Full as ShardFull}
use Rattle.bm_core.specs.declared.events.Stage.{Stage}
use Rattle.bm_core.specs.declared.events.Verdict.TheVariants.{Accept, Process, Reset, Drop}
use Rattle.bm_core.specs.declared.events.What.TheVariants.{Close, Lose}
use Rattle.bm_core.specs.declared.events.Why.TheVariants.{NoPrevious, Full}
use Rattle.bm_core.specs.Ends.{AtServer, Lost, packet_ends}
use Rattle.bm_core.proofs.Playing.{play}
use Rattle.bm_core.proofs.Worked.{server, flow_from, syn, data_of, record_at, stage_of, at, steer, arrive, replayed}
use Rattle.bm_core.proofs.Worked.{causes_of, newest_broken}
use Rattle.std.proofs.Common.{true, false}

-- one packet is lost, another comes three times
abbrev fates : Stage
fates = stage_of
    (record plain_setting {
      faults =
          record { packet = 2; hop = Direct; fate = record { copies = 0; delay = 0 } }
          ∷ record { packet = 3; hop = Direct; fate = record { copies = 3; delay = 0 } } ∷ [];
    }) [] []
    (record_at 0 (syn 1000 100) ∷ record_at 1000 (data_of 1000 101 10) ∷ record_at 2000 (data_of 1000 101 10) ∷ [])

fates_events : reverse (replayed fates 10) ≡
    steer 1 1 0
    ∷ arrive 2 1 Direct 1 Accept
    ∷ steer 1001 2 0
    ∷ at 1002 (Lose 2 Direct)
    ∷ steer 2001 3 0
    ∷ arrive 2002 3 Direct 1 (Process Advance)
    ∷ arrive 2003 3 Direct 1 (Process Duplicate)
    ∷ arrive 2004 3 Direct 1 (Process Duplicate)
    ∷ []
unfolding replayed play has_flag is_opening flow_octets fnv_step fnv_1a flow_hash acceptable distance taken_reset
    comes_in_turn taken after_taken opened receiver_after
fates_events = refl

fates_causes : reverse (causes_of fates (replayed fates 10))
    ≡ None ∷ None ∷ None ∷ None ∷ None ∷ None ∷ None ∷ None ∷ []
unfolding replayed play has_flag is_opening flow_octets fnv_step fnv_1a flow_hash acceptable distance taken_reset
    comes_in_turn taken after_taken opened receiver_after
fates_causes = refl

-- the lost packet has no end but its loss, the other one an end for each copy
fates_ends : (packet_ends (replayed fates 10) 2 ≡ Lost ∷ [])
    × (packet_ends (replayed fates 10) 3 ≡
    AtServer (server 1) (Process Advance)
    ∷ AtServer (server 1) (Process Duplicate)
    ∷ AtServer (server 1) (Process Duplicate)
    ∷ [])
unfolding replayed play has_flag is_opening flow_octets fnv_step fnv_1a flow_hash acceptable distance taken_reset
    comes_in_turn taken after_taken opened receiver_after
fates_ends = (refl, refl)

-- a shard that holds its capacity drops a SYN
abbrev full : Stage
full = stage_of (record plain_setting { shards = 1; capacity = 1 }) [] []
    (record_at 0 (syn 1000 100) ∷ record_at 1000 (syn 1002 100) ∷ [])

full_events : reverse (replayed full 6) ≡
    steer 1 1 0
    ∷ arrive 2 1 Direct 1 Accept
    ∷ steer 1001 2 0
    ∷ arrive 1002 2 Direct 1 (Drop Full)
    ∷ []
unfolding replayed play has_flag is_opening flow_octets fnv_step fnv_1a flow_hash acceptable distance taken_reset
    comes_in_turn taken after_taken opened receiver_after
full_events = refl

full_causes : reverse (causes_of full (replayed full 6)) ≡ None ∷ None ∷ None ∷ Some ShardFull ∷ []
unfolding replayed play has_flag is_opening flow_octets fnv_step fnv_1a flow_hash acceptable distance taken_reset
    comes_in_turn taken after_taken opened receiver_after
full_causes = refl

-- a connection is closed once
abbrev closed : Stage
closed = stage_of plain_setting []
    (CloseCommand (record { 0 = 500 }) (server 1) (flow_from 1000) ∷ CloseCommand (record { 0 = 600 }) (server 1)
    (flow_from 1000) ∷ []) (record_at 0 (syn 1000 100) ∷ record_at 1000 (data_of 1000 101 10) ∷ [])

closed_events : reverse (replayed closed 8) ≡
    steer 1 1 0
    ∷ arrive 2 1 Direct 1 Accept
    ∷ at 501 (Close (server 1) (flow_from 1000) true)
    ∷ at 601 (Close (server 1) (flow_from 1000) false)
    ∷ steer 1001 2 0
    ∷ arrive 1002 2 Direct 1 (Reset NoPrevious)
    ∷ []
unfolding replayed play has_flag is_opening flow_octets fnv_step fnv_1a flow_hash acceptable distance taken_reset
    comes_in_turn taken after_taken opened receiver_after
closed_events = refl

closed_causes : reverse (causes_of closed (replayed closed 8)) ≡ None ∷ None ∷ None ∷ None ∷ None ∷ Some NotHeld ∷ []
unfolding replayed play has_flag is_opening flow_octets fnv_step fnv_1a flow_hash acceptable distance taken_reset
    comes_in_turn taken after_taken opened receiver_after
closed_causes = refl

closed_broken : newest_broken closed (replayed closed 6) ≡ NotHeld ∷ []
unfolding replayed play has_flag is_opening flow_octets fnv_step fnv_1a flow_hash acceptable distance taken_reset
    comes_in_turn taken after_taken opened receiver_after
closed_broken = refl
