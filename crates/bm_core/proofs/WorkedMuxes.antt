-- Muxes that lag, packets that come before their SYN, and a SYN that two servers accept.
use Rattle.std.proofs.Common.{◌≡◌, [], ◌∷◌, Some, None, refl}
use Rattle.std.specs.Prelude.{reverse}
use Rattle.bm_base.specs.declared.label.Hop.TheVariants.{Direct, Chained}
use Rattle.bm_base.specs.declared.receive.Taken.TheVariants.{Advance}
use Rattle.bm_base.specs.Segments.{has_flag, is_opening}
use Rattle.bm_table.specs.declared.plan.Kind.TheVariants.{Shift}
use Rattle.bm_table.specs.declared.script.Command.TheVariants.{Change as ChangeCommand}
use Rattle.bm_table.specs.declared.setting.RouteKind.TheVariants.{Turn}
use Rattle.bm_table.specs.Settings.{plain_setting}
use Rattle.bm_hash.specs.Buckets.{flow_octets, fnv_step, fnv_1a, flow_hash}
use Rattle.bm_seq.specs.Receivers.{acceptable, distance, taken_reset, comes_in_turn, taken, after_taken, opened}
use Rattle.bm_seq.specs.Receivers.{receiver_after}
use Rattle.bm_core.specs.declared.events.Cause.TheVariants.{NeverAccepted, StaleMux, SynElsewhere}
use Rattle.bm_core.specs.declared.events.Stage.{Stage}
use Rattle.bm_core.specs.declared.events.Verdict.TheVariants.{Accept, Process, Forward, Reset}
use Rattle.bm_core.specs.declared.events.Why.TheVariants.{NoPrevious, ChainedUnknown}
use Rattle.bm_core.proofs.Playing.{play}
use Rattle.bm_core.proofs.Worked.{server, syn, data_of, record_at, move, change_at, stage_of, publish, switch, steer}
use Rattle.bm_core.proofs.Worked.{arrive, replayed, causes_of, newest_broken}

-- the second mux lags: it labels the data with an older version than the SYN had
abbrev stale : Stage
stale = stage_of (record plain_setting { muxes = 2; route = Turn; lags = 1000000 ∷ 0 ∷ [] })
    (change_at 0 Shift (move 4 2 ∷ []) ∷ []) (ChangeCommand (record { 0 = 1 }) ∷ [])
    (record_at 0 (syn 1000 100) ∷ record_at 1000 (data_of 1000 101 10) ∷ [])

stale_events : reverse (replayed stale 9) ≡
    publish 1 1
    ∷ switch 2 1 1
    ∷ steer 3 1 1
    ∷ arrive 4 1 Direct 2 Accept
    ∷ steer 1001 2 0
    ∷ arrive 1002 2 Direct 1 (Reset NoPrevious)
    ∷ switch 1000001 0 1
    ∷ []
unfolding replayed play has_flag is_opening flow_octets fnv_step fnv_1a flow_hash acceptable distance taken_reset
    comes_in_turn taken after_taken opened receiver_after
stale_events = refl

stale_causes : reverse (causes_of stale (replayed stale 9))
    ≡ None ∷ None ∷ None ∷ None ∷ None ∷ Some StaleMux ∷ None ∷ []
unfolding replayed play has_flag is_opening flow_octets fnv_step fnv_1a flow_hash acceptable distance taken_reset
    comes_in_turn taken after_taken opened receiver_after
stale_causes = refl

stale_broken : newest_broken stale (replayed stale 6) ≡ StaleMux ∷ []
unfolding replayed play has_flag is_opening flow_octets fnv_step fnv_1a flow_hash acceptable distance taken_reset
    comes_in_turn taken after_taken opened receiver_after
stale_broken = refl

-- data before its SYN, whose forwarded copy is late: no server knows its flow
abbrev early : Stage
early = stage_of
    (record plain_setting {
      faults =
          record { packet = 1; hop = Chained; fate = record { copies = 1; delay = 5000 } } ∷ [];
    })
    (change_at 0 Shift (move 4 2 ∷ []) ∷ []) (ChangeCommand (record { 0 = 1 }) ∷ [])
    (record_at 0 (data_of 1000 101 10) ∷ record_at 1000 (syn 1000 100) ∷ [])

early_events : reverse (replayed early 9) ≡
    publish 1 1
    ∷ switch 2 0 1
    ∷ steer 3 1 0
    ∷ arrive 4 1 Direct 2 (Forward (server 1))
    ∷ steer 1001 2 0
    ∷ arrive 1002 2 Direct 2 Accept
    ∷ arrive 5005 1 Chained 1 (Reset ChainedUnknown)
    ∷ []
unfolding replayed play has_flag is_opening flow_octets fnv_step fnv_1a flow_hash acceptable distance taken_reset
    comes_in_turn taken after_taken opened receiver_after
early_events = refl

early_causes : reverse (causes_of early (replayed early 9)) ≡ None ∷ None ∷ None ∷ None ∷ None ∷ None ∷ Some
    NeverAccepted ∷ []
unfolding replayed play has_flag is_opening flow_octets fnv_step fnv_1a flow_hash acceptable distance taken_reset
    comes_in_turn taken after_taken opened receiver_after
early_causes = refl

early_broken : newest_broken early (replayed early 7) ≡ NeverAccepted ∷ []
unfolding replayed play has_flag is_opening flow_octets fnv_step fnv_1a flow_hash acceptable distance taken_reset
    comes_in_turn taken after_taken opened receiver_after
early_broken = refl

-- a repeated SYN is accepted by a second server; the data is processed by the first one, which is not its owner
abbrev elsewhere : Stage
elsewhere =
    stage_of plain_setting (change_at 500 Shift (move 4 2 ∷ []) ∷ change_at 1500 Shift (move 4 1 ∷ []) ∷ [])
    (ChangeCommand (record { 0 = 1 }) ∷ ChangeCommand (record { 0 = 2 }) ∷ [])
    (record_at 0 (syn 1000 100) ∷ record_at 1000 (syn 1000 100) ∷ record_at 2000 (data_of 1000 101 10) ∷ [])

elsewhere_events : reverse (replayed elsewhere 12) ≡
    steer 1 1 0
    ∷ arrive 2 1 Direct 1 Accept
    ∷ publish 501 1
    ∷ switch 502 0 1
    ∷ steer 1001 2 0
    ∷ arrive 1002 2 Direct 2 Accept
    ∷ publish 1501 2
    ∷ switch 1502 0 2
    ∷ steer 2001 3 0
    ∷ arrive 2002 3 Direct 1 (Process Advance)
    ∷ []
unfolding replayed play has_flag is_opening flow_octets fnv_step fnv_1a flow_hash acceptable distance taken_reset
    comes_in_turn taken after_taken opened receiver_after
elsewhere_events = refl

elsewhere_causes : reverse (causes_of elsewhere (replayed elsewhere 12))
    ≡ None ∷ None ∷ None ∷ None ∷ None ∷ None ∷ None ∷ None ∷ None ∷ Some SynElsewhere ∷ []
unfolding replayed play has_flag is_opening flow_octets fnv_step fnv_1a flow_hash acceptable distance taken_reset
    comes_in_turn taken after_taken opened receiver_after
elsewhere_causes = refl

elsewhere_broken : newest_broken elsewhere (replayed elsewhere 10) ≡ SynElsewhere ∷ []
unfolding replayed play has_flag is_opening flow_octets fnv_step fnv_1a flow_hash acceptable distance taken_reset
    comes_in_turn taken after_taken opened receiver_after
elsewhere_broken = refl
