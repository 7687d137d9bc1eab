-- A connection whose bucket moves: its packets are forwarded to its owner while the move is recent.
use Rattle.std.proofs.Common.{◌≡◌, ◌^◌, [], ◌∷◌, Some, None, refl}
use Rattle.std.specs.Prelude.{reverse}
use Rattle.bm_base.specs.declared.label.Hop.TheVariants.{Direct, Chained, Twice}
use Rattle.bm_base.specs.declared.receive.Taken.TheVariants.{Advance}
use Rattle.bm_base.specs.Segments.{has_flag, is_opening}
use Rattle.bm_table.specs.declared.plan.Kind.TheVariants.{Shift}
use Rattle.bm_table.specs.declared.script.Command.TheVariants.{Change as ChangeCommand}
use Rattle.bm_table.specs.Settings.{plain_setting}
use Rattle.bm_hash.specs.Buckets.{flow_octets, fnv_step, fnv_1a, flow_hash}
use Rattle.bm_seq.specs.Receivers.{acceptable, distance, taken_reset, comes_in_turn, taken, after_taken, opened}
use Rattle.bm_seq.specs.Receivers.{receiver_after}
use Rattle.bm_core.specs.declared.events.Cause.TheVariants.{MovedThrice, ChainLate}
use Rattle.bm_core.specs.declared.events.Stage.{Stage}
use Rattle.bm_core.specs.declared.events.Verdict.TheVariants.{Accept, Process, Forward, Reset}
use Rattle.bm_core.specs.declared.events.Why.TheVariants.{ChainExpired, ChainedUnknown}
use Rattle.bm_core.specs.Past.{label_of}
use Rattle.bm_core.specs.Ends.{AtServer, packet_ends}
use Rattle.bm_core.proofs.Playing.{play}
use Rattle.bm_core.proofs.Worked.{server, syn, data_of, record_at, move, change_at, stage_of, publish, switch, steer}
use Rattle.bm_core.proofs.Worked.{arrive, replayed, causes_of, newest_broken}

-- one move: the data is forwarded to the server that accepted the SYN
abbrev pub moved : Stage
moved = stage_of plain_setting (change_at 500 Shift (move 4 2 ∷ []) ∷ []) (ChangeCommand (record { 0 = 1 }) ∷ [])
    (record_at 0 (syn 1000 100) ∷ record_at 1000 (data_of 1000 101 10) ∷ [])

moved_events : reverse (replayed moved 9) ≡
    steer 1 1 0
    ∷ arrive 2 1 Direct 1 Accept
    ∷ publish 501 1
    ∷ switch 502 0 1
    ∷ steer 1001 2 0
    ∷ arrive 1002 2 Direct 2 (Forward (server 1))
    ∷ arrive 1003 2 Chained 1 (Process Advance)
    ∷ []
unfolding replayed play has_flag is_opening flow_octets fnv_step fnv_1a flow_hash acceptable distance taken_reset
    comes_in_turn taken after_taken opened receiver_after
moved_events = refl

moved_causes : reverse (causes_of moved (replayed moved 9)) ≡ None ∷ None ∷ None ∷ None ∷ None ∷ None ∷ None ∷ []
unfolding replayed play has_flag is_opening flow_octets fnv_step fnv_1a flow_hash acceptable distance taken_reset
    comes_in_turn taken after_taken opened receiver_after
moved_causes = refl

moved_broken : newest_broken moved (replayed moved 7) ≡ []
unfolding replayed play has_flag is_opening flow_octets fnv_step fnv_1a flow_hash acceptable distance taken_reset
    comes_in_turn taken after_taken opened receiver_after
moved_broken = refl

moved_label : label_of moved (replayed moved 9) 2
    ≡ Some (record {
      mux = record { 0 = 0 };
      version = record { 0 = 1 };
      entry =
          record {
            cur = server 2;
            prev = Some (record { server = server 1; stamp = record { 0 = 500 } });
            older = None;
          };
    })
unfolding replayed play has_flag is_opening flow_octets fnv_step fnv_1a flow_hash acceptable distance taken_reset
    comes_in_turn taken after_taken opened receiver_after
moved_label = refl

-- a timeout of a second: what arrives at the stamp plus the timeout is forwarded, what arrives later is reset
abbrev expired : Stage
expired =
    stage_of (record plain_setting { timeout = 10 ^ 9 }) (change_at 500 Shift (move 4 2 ∷ []) ∷ [])
    (ChangeCommand (record { 0 = 1 }) ∷ [])
    (record_at 0 (syn 1000 100) ∷ record_at 1000000498 (data_of 1000 101 10) ∷ record_at 1000000500
    (data_of 1000 111 10) ∷ [])

expired_events : reverse (replayed expired 11) ≡
    steer 1 1 0
    ∷ arrive 2 1 Direct 1 Accept
    ∷ publish 501 1
    ∷ switch 502 0 1
    ∷ steer 1000000499 2 0
    ∷ arrive 1000000500 2 Direct 2 (Forward (server 1))
    ∷ arrive 1000000501 2 Chained 1 (Process Advance)
    ∷ steer 1000000502 3 0
    ∷ arrive 1000000503 3 Direct 2 (Reset ChainExpired)
    ∷ []
unfolding replayed play has_flag is_opening flow_octets fnv_step fnv_1a flow_hash acceptable distance taken_reset
    comes_in_turn taken after_taken opened receiver_after
expired_events = refl

expired_causes : reverse (causes_of expired (replayed expired 11))
    ≡ None ∷ None ∷ None ∷ None ∷ None ∷ None ∷ None ∷ None ∷ Some ChainLate ∷ []
unfolding replayed play has_flag is_opening flow_octets fnv_step fnv_1a flow_hash acceptable distance taken_reset
    comes_in_turn taken after_taken opened receiver_after
expired_causes = refl

expired_broken : newest_broken expired (replayed expired 9) ≡ ChainLate ∷ []
unfolding replayed play has_flag is_opening flow_octets fnv_step fnv_1a flow_hash acceptable distance taken_reset
    comes_in_turn taken after_taken opened receiver_after
expired_broken = refl

-- one nanosecond later the same packet is reset
abbrev expired_by_one : Stage
expired_by_one =
    stage_of (record plain_setting { timeout = 10 ^ 9 }) (change_at 500 Shift (move 4 2 ∷ []) ∷ [])
    (ChangeCommand (record { 0 = 1 }) ∷ [])
    (record_at 0 (syn 1000 100) ∷ record_at 1000000499 (data_of 1000 101 10) ∷ [])

expired_by_one_events : reverse (replayed expired_by_one 8) ≡
    steer 1 1 0
    ∷ arrive 2 1 Direct 1 Accept
    ∷ publish 501 1
    ∷ switch 502 0 1
    ∷ steer 1000000500 2 0
    ∷ arrive 1000000501 2 Direct 2 (Reset ChainExpired)
    ∷ []
unfolding replayed play has_flag is_opening flow_octets fnv_step fnv_1a flow_hash acceptable distance taken_reset
    comes_in_turn taken after_taken opened receiver_after
expired_by_one_events = refl

expired_by_one_causes : reverse (causes_of expired_by_one (replayed expired_by_one 8))
    ≡ None ∷ None ∷ None ∷ None ∷ None ∷ Some ChainLate ∷ []
unfolding replayed play has_flag is_opening flow_octets fnv_step fnv_1a flow_hash acceptable distance taken_reset
    comes_in_turn taken after_taken opened receiver_after
expired_by_one_causes = refl

-- two moves to other servers: the data goes on twice, to the server that accepted the SYN
abbrev pub moved_twice : Stage
moved_twice =
    stage_of (record plain_setting { servers = server 1 ∷ server 2 ∷ server 3 ∷ [] })
    (change_at 500 Shift (move 4 3 ∷ []) ∷ change_at 600 Shift (move 4 1 ∷ []) ∷ [])
    (ChangeCommand (record { 0 = 1 }) ∷ ChangeCommand (record { 0 = 2 }) ∷ [])
    (record_at 0 (syn 1000 100) ∷ record_at 1000 (data_of 1000 101 10) ∷ [])

moved_twice_events : reverse (replayed moved_twice 12) ≡
    steer 1 1 0
    ∷ arrive 2 1 Direct 2 Accept
    ∷ publish 501 1
    ∷ switch 502 0 1
    ∷ publish 601 2
    ∷ switch 602 0 2
    ∷ steer 1001 2 0
    ∷ arrive 1002 2 Direct 1 (Forward (server 3))
    ∷ arrive 1003 2 Chained 3 (Forward (server 2))
    ∷ arrive 1004 2 Twice 2 (Process Advance)
    ∷ []
unfolding replayed play has_flag is_opening flow_octets fnv_step fnv_1a flow_hash acceptable distance taken_reset
    comes_in_turn taken after_taken opened receiver_after
moved_twice_events = refl

moved_twice_causes : reverse (causes_of moved_twice (replayed moved_twice 12))
    ≡ None ∷ None ∷ None ∷ None ∷ None ∷ None ∷ None ∷ None ∷ None ∷ None ∷ []
unfolding replayed play has_flag is_opening flow_octets fnv_step fnv_1a flow_hash acceptable distance taken_reset
    comes_in_turn taken after_taken opened receiver_after
moved_twice_causes = refl

moved_twice_label : label_of moved_twice (replayed moved_twice 12) 2
    ≡ Some (record {
      mux = record { 0 = 0 };
      version = record { 0 = 2 };
      entry =
          record {
            cur = server 1;
            prev = Some (record { server = server 3; stamp = record { 0 = 600 } });
            older = Some (record { server = server 2; stamp = record { 0 = 500 } });
          };
    })
unfolding replayed play has_flag is_opening flow_octets fnv_step fnv_1a flow_hash acceptable distance taken_reset
    comes_in_turn taken after_taken opened receiver_after
moved_twice_label = refl

-- a third move: the older server of the label is not the owner
abbrev moved_thrice : Stage
moved_thrice =
    stage_of (record plain_setting { servers = server 1 ∷ server 2 ∷ server 3 ∷ [] })
    (change_at 500 Shift (move 4 3 ∷ []) ∷ change_at 600 Shift (move 4 1 ∷ [])
    ∷ change_at 700 Shift (move 4 3 ∷ []) ∷ [])
    (ChangeCommand (record { 0 = 1 }) ∷ ChangeCommand (record { 0 = 2 })
    ∷ ChangeCommand (record { 0 = 3 }) ∷ [])
    (record_at 0 (syn 1000 100) ∷ record_at 1000 (data_of 1000 101 10) ∷ [])

moved_thrice_events : reverse (replayed moved_thrice 14) ≡
    steer 1 1 0
    ∷ arrive 2 1 Direct 2 Accept
    ∷ publish 501 1
    ∷ switch 502 0 1
    ∷ publish 601 2
    ∷ switch 602 0 2
    ∷ publish 701 3
    ∷ switch 702 0 3
    ∷ steer 1001 2 0
    ∷ arrive 1002 2 Direct 3 (Forward (server 1))
    ∷ arrive 1003 2 Chained 1 (Forward (server 3))
    ∷ arrive 1004 2 Twice 3 (Reset ChainedUnknown)
    ∷ []
unfolding replayed play has_flag is_opening flow_octets fnv_step fnv_1a flow_hash acceptable distance taken_reset
    comes_in_turn taken after_taken opened receiver_after
moved_thrice_events = refl

moved_thrice_causes : reverse (causes_of moved_thrice (replayed moved_thrice 14))
    ≡ None ∷ None ∷ None ∷ None ∷ None ∷ None ∷ None ∷ None ∷ None ∷ None ∷ None ∷ Some MovedThrice ∷ []
unfolding replayed play has_flag is_opening flow_octets fnv_step fnv_1a flow_hash acceptable distance taken_reset
    comes_in_turn taken after_taken opened receiver_after
moved_thrice_causes = refl

moved_thrice_broken : newest_broken moved_thrice (replayed moved_thrice 12) ≡ MovedThrice ∷ []
unfolding replayed play has_flag is_opening flow_octets fnv_step fnv_1a flow_hash acceptable distance taken_reset
    comes_in_turn taken after_taken opened receiver_after
moved_thrice_broken = refl

-- it has one end, and not at its owner's server
moved_thrice_ends : packet_ends (replayed moved_thrice 14) 2 ≡ AtServer (server 3) (Reset ChainedUnknown) ∷ []
unfolding replayed play has_flag is_opening flow_octets fnv_step fnv_1a flow_hash acceptable distance taken_reset
    comes_in_turn taken after_taken opened receiver_after
moved_thrice_ends = refl

-- the second move is recent, the first isn't: the data is forwarded once and then reset
abbrev older_late : Stage
older_late =
    stage_of (record plain_setting { servers = server 1 ∷ server 2 ∷ server 3 ∷ []; timeout = 10 ^ 9 })
    (change_at 500 Shift (move 4 3 ∷ []) ∷ change_at 900000000 Shift (move 4 1 ∷ []) ∷ [])
    (ChangeCommand (record { 0 = 1 }) ∷ ChangeCommand (record { 0 = 2 }) ∷ [])
    (record_at 0 (syn 1000 100) ∷ record_at 1000000600 (data_of 1000 101 10) ∷ [])

older_late_events : reverse (replayed older_late 11) ≡
    steer 1 1 0
    ∷ arrive 2 1 Direct 2 Accept
    ∷ publish 501 1
    ∷ switch 502 0 1
    ∷ publish 900000001 2
    ∷ switch 900000002 0 2
    ∷ steer 1000000601 2 0
    ∷ arrive 1000000602 2 Direct 1 (Forward (server 3))
    ∷ arrive 1000000603 2 Chained 3 (Reset ChainExpired)
    ∷ []
unfolding replayed play has_flag is_opening flow_octets fnv_step fnv_1a flow_hash acceptable distance taken_reset
    comes_in_turn taken after_taken opened receiver_after
older_late_events = refl

older_late_causes : reverse (causes_of older_late (replayed older_late 11))
    ≡ None ∷ None ∷ None ∷ None ∷ None ∷ None ∷ None ∷ None ∷ Some ChainLate ∷ []
unfolding replayed play has_flag is_opening flow_octets fnv_step fnv_1a flow_hash acceptable distance taken_reset
    comes_in_turn taken after_taken opened receiver_after
older_late_causes = refl

-- the one premise that is broken: the chained copy comes too late for the older server
older_late_broken : newest_broken older_late (replayed older_late 9) ≡ ChainLate ∷ []
unfolding replayed play has_flag is_opening flow_octets fnv_step fnv_1a flow_hash acceptable distance taken_reset
    comes_in_turn taken after_taken opened receiver_after
older_late_broken = refl

-- there and back again: the owner is the current server
abbrev moved_back : Stage
moved_back =
    stage_of plain_setting (change_at 500 Shift (move 4 2 ∷ []) ∷ change_at 600 Shift (move 4 1 ∷ []) ∷ [])
    (ChangeCommand (record { 0 = 1 }) ∷ ChangeCommand (record { 0 = 2 }) ∷ [])
    (record_at 0 (syn 1000 100) ∷ record_at 1000 (data_of 1000 101 10) ∷ [])

moved_back_events : reverse (replayed moved_back 10) ≡
    steer 1 1 0
    ∷ arrive 2 1 Direct 1 Accept
    ∷ publish 501 1
    ∷ switch 502 0 1
    ∷ publish 601 2
    ∷ switch 602 0 2
    ∷ steer 1001 2 0
    ∷ arrive 1002 2 Direct 1 (Process Advance)
    ∷ []
unfolding replayed play has_flag is_opening flow_octets fnv_step fnv_1a flow_hash acceptable distance taken_reset
    comes_in_turn taken after_taken opened receiver_after
moved_back_events = refl

moved_back_causes : reverse (causes_of moved_back (replayed moved_back 10))
    ≡ None ∷ None ∷ None ∷ None ∷ None ∷ None ∷ None ∷ None ∷ []
unfolding replayed play has_flag is_opening flow_octets fnv_step fnv_1a flow_hash acceptable distance taken_reset
    comes_in_turn taken after_taken opened receiver_after
moved_back_causes = refl
