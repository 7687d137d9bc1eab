-- What a receiver makes of RSTs, and sequence numbers that pass 2^32.
use Rattle.std.proofs.Common.{◌≡◌, [], ◌∷◌, Some, None, refl}
use Rattle.std.specs.Prelude.{reverse}
use Rattle.bm_base.specs.declared.label.Hop.TheVariants.{Direct}
use Rattle.bm_base.specs.declared.receive.Taken.TheVariants.{Advance, Outside, Challenge, Ended}
use Rattle.bm_base.specs.Segments.{has_flag, is_opening}
use Rattle.bm_table.specs.Settings.{plain_setting}
use Rattle.bm_hash.specs.Buckets.{flow_octets, fnv_step, fnv_1a, flow_hash}
use Rattle.bm_seq.specs.Receivers.{acceptable, distance, taken_reset, comes_in_turn, taken, after_taken, opened}
use Rattle.bm_seq.specs.Receivers.{receiver_after}
use Rattle.bm_core.specs.declared.events.Cause.TheVariants.{NotHeld}
use Rattle.bm_core.specs.declared.events.Stage.{Stage}
use Rattle.bm_core.specs.declared.events.Verdict.TheVariants.{Accept, Process, Reset, Drop}
use Rattle.bm_core.specs.declared.events.Why.TheVariants.{NoPrevious, Silent}
use Rattle.bm_core.proofs.Playing.{play}
use Rattle.bm_core.proofs.Worked.{syn, data_of, fin, rst, record_at, stage_of, steer, arrive, replayed, causes_of}
use Rattle.bm_core.proofs.Worked.{newest_broken}

-- an RST outside the window, one inside it, and one at its beginning, which ends the connection
abbrev resets : Stage
resets = stage_of plain_setting [] []
    (record_at 0 (syn 1000 100) ∷ record_at 1000 (rst 1000 66000) ∷ record_at 2000 (rst 1000 102) ∷ record_at 3000
    (rst 1000 101) ∷ record_at 4000 (data_of 1000 101 10) ∷ record_at 5000 (rst 1000 101) ∷ [])

resets_events : reverse (replayed resets 14) ≡
    steer 1 1 0
    ∷ arrive 2 1 Direct 1 Accept
    ∷ steer 1001 2 0
    ∷ arrive 1002 2 Direct 1 (Process Outside)
    ∷ steer 2001 3 0
    ∷ arrive 2002 3 Direct 1 (Process Challenge)
    ∷ steer 3001 4 0
    ∷ arrive 3002 4 Direct 1 (Process Ended)
    ∷ steer 4001 5 0
    ∷ arrive 4002 5 Direct 1 (Reset NoPrevious)
    ∷ steer 5001 6 0
    ∷ arrive 5002 6 Direct 1 (Drop Silent)
    ∷ []
unfolding replayed play has_flag is_opening flow_octets fnv_step fnv_1a flow_hash acceptable distance taken_reset
    comes_in_turn taken after_taken opened receiver_after
resets_events = refl

resets_causes : reverse (causes_of resets (replayed resets 14))
    ≡ None ∷ None ∷ None ∷ None ∷ None ∷ None ∷ None ∷ None ∷ None ∷ Some NotHeld ∷ None ∷ Some NotHeld ∷ []
unfolding replayed play has_flag is_opening flow_octets fnv_step fnv_1a flow_hash acceptable distance taken_reset
    comes_in_turn taken after_taken opened receiver_after
resets_causes = refl

resets_broken : newest_broken resets (replayed resets 12) ≡ NotHeld ∷ []
unfolding replayed play has_flag is_opening flow_octets fnv_step fnv_1a flow_hash acceptable distance taken_reset
    comes_in_turn taken after_taken opened receiver_after
resets_broken = refl

-- sequence numbers pass 2^32, a FIN finishes the connection, and a new SYN replaces it
abbrev wraps : Stage
wraps = stage_of plain_setting [] []
    (record_at 0 (syn 1000 4294967290) ∷ record_at 1000 (data_of 1000 4294967291 10) ∷ record_at 2000
    (fin 1000 5) ∷ record_at 3000 (syn 1000 1000) ∷ record_at 4000 (syn 1000 2000) ∷ [])

wraps_events : reverse (replayed wraps 12) ≡
    steer 1 1 0
    ∷ arrive 2 1 Direct 1 Accept
    ∷ steer 1001 2 0
    ∷ arrive 1002 2 Direct 1 (Process Advance)
    ∷ steer 2001 3 0
    ∷ arrive 2002 3 Direct 1 (Process Advance)
    ∷ steer 3001 4 0
    ∷ arrive 3002 4 Direct 1 Accept
    ∷ steer 4001 5 0
    ∷ arrive 4002 5 Direct 1 (Process Challenge)
    ∷ []
unfolding replayed play has_flag is_opening flow_octets fnv_step fnv_1a flow_hash acceptable distance taken_reset
    comes_in_turn taken after_taken opened receiver_after
wraps_events = refl

wraps_causes : reverse (causes_of wraps (replayed wraps 12))
    ≡ None ∷ None ∷ None ∷ None ∷ None ∷ None ∷ None ∷ None ∷ None ∷ None ∷ []
unfolding replayed play has_flag is_opening flow_octets fnv_step fnv_1a flow_hash acceptable distance taken_reset
    comes_in_turn taken after_taken opened receiver_after
wraps_causes = refl
