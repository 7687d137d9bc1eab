-- A connection through the plain setting: its SYN is accepted, its data processed; and data that no
-- server accepted is reset.
use Rattle.std.proofs.Common.{◌≡◌, [], ◌∷◌, Some, None, refl}
use Rattle.std.specs.Prelude.{reverse}
use Rattle.bm_base.specs.declared.label.Hop.TheVariants.{Direct}
use Rattle.bm_base.specs.declared.receive.Taken.TheVariants.{Advance}
use Rattle.bm_base.specs.Segments.{has_flag, is_opening}
use Rattle.bm_table.specs.Settings.{plain_setting}
use Rattle.bm_hash.specs.Buckets.{flow_octets, fnv_step, fnv_1a, flow_hash}
use Rattle.bm_seq.specs.Receivers.{acceptable, distance, taken_reset, comes_in_turn, taken, after_taken, opened}
use Rattle.bm_seq.specs.Receivers.{receiver_after}
use Rattle.bm_core.specs.declared.events.Cause.TheVariants.{NeverAccepted}
use Rattle.bm_core.specs.declared.events.Stage.{Stage}
use Rattle.bm_core.specs.declared.events.Verdict.TheVariants.{Accept, Process, Reset}
use Rattle.bm_core.specs.declared.events.Why.TheVariants.{NoPrevious}
use Rattle.bm_core.proofs.Playing.{play}
use Rattle.bm_core.proofs.Worked.{syn, data_of, record_at, stage_of, steer, arrive, replayed, causes_of, newest_broken}

-- a SYN and its data
abbrev plain : Stage
plain = stage_of plain_setting [] [] (record_at 0 (syn 1000 100) ∷ record_at 1000 (data_of 1000 101 10) ∷ [])

plain_events : reverse (replayed plain 6) ≡
    steer 1 1 0
    ∷ arrive 2 1 Direct 1 Accept
    ∷ steer 1001 2 0
    ∷ arrive 1002 2 Direct 1 (Process Advance)
    ∷ []
unfolding replayed play has_flag is_opening flow_octets fnv_step fnv_1a flow_hash acceptable distance taken_reset
    comes_in_turn taken after_taken opened receiver_after
plain_events = refl

plain_causes : reverse (causes_of plain (replayed plain 6)) ≡ None ∷ None ∷ None ∷ None ∷ []
unfolding replayed play has_flag is_opening flow_octets fnv_step fnv_1a flow_hash acceptable distance taken_reset
    comes_in_turn taken after_taken opened receiver_after
plain_causes = refl

-- data alone
abbrev unknown : Stage
unknown = stage_of plain_setting [] [] (record_at 0 (data_of 1001 101 10) ∷ [])

unknown_events : reverse (replayed unknown 4) ≡
    steer 1 1 0
    ∷ arrive 2 1 Direct 2 (Reset NoPrevious)
    ∷ []
unfolding replayed play has_flag is_opening flow_octets fnv_step fnv_1a flow_hash acceptable distance taken_reset
    comes_in_turn taken after_taken opened receiver_after
unknown_events = refl

unknown_causes : reverse (causes_of unknown (replayed unknown 4)) ≡ None ∷ Some NeverAccepted ∷ []
unfolding replayed play has_flag is_opening flow_octets fnv_step fnv_1a flow_hash acceptable distance taken_reset
    comes_in_turn taken after_taken opened receiver_after
unknown_causes = refl

unknown_broken : newest_broken unknown (replayed unknown 2) ≡ NeverAccepted ∷ []
unfolding replayed play has_flag is_opening flow_octets fnv_step fnv_1a flow_hash acceptable distance taken_reset
    comes_in_turn taken after_taken opened receiver_after
unknown_broken = refl
