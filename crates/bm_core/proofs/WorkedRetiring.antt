-- Servers that drain and retire.
use Rattle.std.proofs.Common.{◌≡◌, ◌^◌, [], ◌∷◌, Some, None, refl}
use Rattle.std.specs.Prelude.{reverse}
use Rattle.bm_base.specs.declared.label.Hop.TheVariants.{Direct, Chained}
use Rattle.bm_base.specs.Segments.{has_flag, is_opening}
use Rattle.bm_table.specs.declared.plan.Kind.TheVariants.{Drain, Shift}
use Rattle.bm_table.specs.declared.plan.Retirement.TheVariants.{Done, NotDrained, TooEarly}
use Rattle.bm_table.specs.declared.script.Command.TheVariants.{Change as ChangeCommand, Retire as RetireCommand}
use Rattle.bm_table.specs.Settings.{plain_setting}
use Rattle.bm_hash.specs.Buckets.{flow_octets, fnv_step, fnv_1a, flow_hash}
use Rattle.bm_seq.specs.Receivers.{acceptable, distance, taken_reset, comes_in_turn, taken, after_taken, opened}
use Rattle.bm_seq.specs.Receivers.{receiver_after}
use Rattle.bm_core.specs.declared.events.Cause.TheVariants.{ChainLate, OldTable}
use Rattle.bm_core.specs.declared.events.Stage.{Stage}
use Rattle.bm_core.specs.declared.events.Verdict.TheVariants.{Accept, Drop, Forward}
use Rattle.bm_core.specs.declared.events.Why.TheVariants.{Retired}
use Rattle.bm_core.proofs.Playing.{play}
use Rattle.bm_core.proofs.Worked.{server, syn, data_of, record_at, move, change_at, stage_of, publish, switch, steer}
use Rattle.bm_core.proofs.Worked.{arrive, retire, replayed, causes_of, newest_broken}

-- a retirement too early, one of a server that is not drained, and one that is done; a delayed packet is then dropped
abbrev retiring : Stage
retiring =
    stage_of (record
    plain_setting {
      shards = 1;
      timeout = 10 ^ 9;
      faults =
          record { packet = 2; hop = Direct; fate = record { copies = 1; delay = 3000000000 } } ∷ [];
    })
    (change_at 500 Shift (move 4 2 ∷ []) ∷ change_at 2000 (Drain (server 2))
    (move 1 1 ∷ move 3 1 ∷ move 4 1 ∷ move 5 1 ∷ move 7 1 ∷ []) ∷ [])
    (ChangeCommand (record { 0 = 1 }) ∷ ChangeCommand (record { 0 = 2 }) ∷ RetireCommand (record { 0 = 3000 })
    (server 2) ∷ RetireCommand (record { 0 = 4000 }) (server 1) ∷ RetireCommand (record { 0 = 2000000000 })
    (server 2) ∷ []) (record_at 0 (syn 1000 100) ∷ record_at 1000 (data_of 1000 101 10) ∷ [])

retiring_events : reverse (replayed retiring 13) ≡
    steer 1 1 0
    ∷ arrive 2 1 Direct 1 Accept
    ∷ publish 501 1
    ∷ switch 502 0 1
    ∷ steer 1001 2 0
    ∷ publish 2001 2
    ∷ switch 2002 0 2
    ∷ retire 3001 2 0 3000 (TooEarly 1)
    ∷ retire 4001 1 0 4000 NotDrained
    ∷ retire 2000000001 2 0 2000000000 Done
    ∷ arrive 3000001002 2 Direct 2 (Drop Retired)
    ∷ []
unfolding replayed play has_flag is_opening flow_octets fnv_step fnv_1a flow_hash acceptable distance taken_reset
    comes_in_turn taken after_taken opened receiver_after
retiring_events = refl

retiring_causes : reverse (causes_of retiring (replayed retiring 13))
    ≡ None ∷ None ∷ None ∷ None ∷ None ∷ None ∷ None ∷ None ∷ None ∷ None ∷ Some ChainLate ∷ []
unfolding replayed play has_flag is_opening flow_octets fnv_step fnv_1a flow_hash acceptable distance taken_reset
    comes_in_turn taken after_taken opened receiver_after
retiring_causes = refl

retiring_broken : newest_broken retiring (replayed retiring 11) ≡ ChainLate ∷ []
unfolding replayed play has_flag is_opening flow_octets fnv_step fnv_1a flow_hash acceptable distance taken_reset
    comes_in_turn taken after_taken opened receiver_after
retiring_broken = refl

-- a SYN that a mux labelled before the drain arrives after the retirement
abbrev old_table : Stage
old_table =
    stage_of (record
    plain_setting {
      shards = 1;
      timeout = 10 ^ 9;
      faults =
          record { packet = 1; hop = Direct; fate = record { copies = 1; delay = 3000000000 } } ∷ [];
    })
    (change_at 500 (Drain (server 1)) (move 0 2 ∷ move 2 2 ∷ move 4 2 ∷ move 6 2 ∷ []) ∷ [])
    (ChangeCommand (record { 0 = 1 }) ∷ RetireCommand (record { 0 = 2000000000 }) (server 1) ∷ [])
    (record_at 0 (syn 1000 100) ∷ [])

old_table_events : reverse (replayed old_table 7) ≡
    steer 1 1 0
    ∷ publish 501 1
    ∷ switch 502 0 1
    ∷ retire 2000000001 1 0 2000000000 Done
    ∷ arrive 3000000002 1 Direct 1 (Drop Retired)
    ∷ []
unfolding replayed play has_flag is_opening flow_octets fnv_step fnv_1a flow_hash acceptable distance taken_reset
    comes_in_turn taken after_taken opened receiver_after
old_table_events = refl

old_table_causes : reverse (causes_of old_table (replayed old_table 7)) ≡ None ∷ None ∷ None ∷ None ∷ Some OldTable ∷ []
unfolding replayed play has_flag is_opening flow_octets fnv_step fnv_1a flow_hash acceptable distance taken_reset
    comes_in_turn taken after_taken opened receiver_after
old_table_causes = refl

-- two changes by hand, the second a drain: the copy that goes on to the drained server comes once that server has retired
abbrev retired_between : Stage
retired_between =
    stage_of (record
    plain_setting {
      servers = server 1 ∷ server 2 ∷ server 3 ∷ [];
      shards = 1;
      timeout = 10 ^ 9;
      faults =
          record { packet = 2; hop = Chained; fate = record { copies = 1; delay = 3000000000 } } ∷ [];
    })
    (change_at 500 Shift (move 4 3 ∷ []) ∷ change_at 2000 (Drain (server 3))
    (move 2 1 ∷ move 4 1 ∷ move 5 2 ∷ []) ∷ [])
    (ChangeCommand (record { 0 = 1 }) ∷ ChangeCommand (record { 0 = 2 }) ∷ RetireCommand (record { 0 = 2000000000 })
    (server 3) ∷ []) (record_at 0 (syn 1000 100) ∷ record_at 3000 (data_of 1000 101 10) ∷ [])

retired_between_events : reverse (replayed retired_between 12) ≡
    steer 1 1 0
    ∷ arrive 2 1 Direct 2 Accept
    ∷ publish 501 1
    ∷ switch 502 0 1
    ∷ publish 2001 2
    ∷ switch 2002 0 2
    ∷ steer 3001 2 0
    ∷ arrive 3002 2 Direct 1 (Forward (server 3))
    ∷ retire 2000000001 3 0 2000000000 Done
    ∷ arrive 3000003003 2 Chained 3 (Drop Retired)
    ∷ []
unfolding replayed play has_flag is_opening flow_octets fnv_step fnv_1a flow_hash acceptable distance taken_reset
    comes_in_turn taken after_taken opened receiver_after
retired_between_events = refl

retired_between_causes : reverse (causes_of retired_between (replayed retired_between 12))
    ≡ None ∷ None ∷ None ∷ None ∷ None ∷ None ∷ None ∷ None ∷ None ∷ Some ChainLate ∷ []
unfolding replayed play has_flag is_opening flow_octets fnv_step fnv_1a flow_hash acceptable distance taken_reset
    comes_in_turn taken after_taken opened receiver_after
retired_between_causes = refl

retired_between_broken : newest_broken retired_between (replayed retired_between 10) ≡ ChainLate ∷ []
unfolding replayed play has_flag is_opening flow_octets fnv_step fnv_1a flow_hash acceptable distance taken_reset
    comes_in_turn taken after_taken opened receiver_after
retired_between_broken = refl
