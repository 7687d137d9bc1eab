-- The history of a connection whose bucket moves, whole: its stage is sound, it is the replay of its stage, and the
-- premises of its packets hold.
use Rattle.std.proofs.Common.{◌≡◌, ℕ, zero, suc, true, false, inl, inr, None, refl, ap, subst, eqb, arith}
use Rattle.std.specs.Prelude.{◌≢◌, IfSome, reverse}
use Rattle.std.proofs.lemmas.Bool.{cases_Bool, both_ways, eqb-true}
use Rattle.bm_base.specs.declared.ids.ServerId.{ServerId}
use Rattle.bm_base.specs.Segments.{has_flag, is_opening}
use Rattle.bm_table.specs.Tables.{brings, next_change, table, is_drained, is_known, IsOrderly}
use Rattle.bm_table.proofs.SettingLemmas.{IsSetting-plain_setting}
use Rattle.bm_hash.specs.Buckets.{flow_octets, fnv_step, fnv_1a, flow_hash}
use Rattle.bm_seq.specs.Receivers.{acceptable, distance, taken_reset, comes_in_turn, taken, after_taken, opened}
use Rattle.bm_seq.specs.Receivers.{receiver_after}
use Rattle.bm_core.specs.declared.events.History.{History}
use Rattle.bm_core.specs.Stages.{IsSound, IsSoundScript}
use Rattle.bm_core.specs.Laws.{At, IsUnbrokenArrival}
use Rattle.bm_core.specs.Rules.{setting_mux, setting_fate, RouteBy, RuleBy}
use Rattle.bm_core.specs.Histories.{IsReplay}
use Rattle.bm_core.proofs.Playing.{play, next_event, mux_within}
use Rattle.bm_core.proofs.Ended.{played_replay}
use Rattle.bm_core.proofs.Worked.{replayed}
use Rattle.bm_core.proofs.WorkedMoves.{moved}

moves_away : (v b : ℕ)
    → IfSome (brings (next_change moved.script.plan v) b) (λ to. to ≢ (table moved.script.plan v b).cur)
moves_away zero b = elim (cases_Bool (eqb 4 b)) [
  | inl same ↦
      let e : 4 ≡ b = eqb-true 4 b same
      in subst (λ (n : ℕ). IfSome (brings (next_change moved.script.plan 0) n)
      (λ to. to ≢ (table moved.script.plan 0 n).cur)) e
      (λ to. let n : ◌≡◌ {A = ℕ} 2 1 = ap (λ (x : ServerId). x.0) to in absurd (omega arith))
  | inr other ↦ rw other tt
]
moves_away (suc v) b = tt

moves_known : (v b : ℕ)
    → IfSome (brings (next_change moved.script.plan v) b) (λ to. is_known moved.script.plan (suc v) to ≡ true)
moves_known zero b = elim (cases_Bool (eqb 4 b)) [ inl same ↦ rw same refl | inr other ↦ rw other tt ]
moves_known (suc v) b = tt

never_drained : (n : ℕ) (s : ServerId) → is_drained moved.script.plan n s ≡ false
never_drained zero s = refl
never_drained (suc zero) s = refl
never_drained (suc (suc n)) s = never_drained (suc n) s

pub moved_orderly : IsOrderly moved.script.plan
moved_orderly = record {
  known = moves_known;
  stamps = λ v w le lt. let v0 : v ≡ 0 = omega arith in let w0 : w ≡ 0 = omega arith in rw (v0, w0) (omega arith);
  changes = moves_away;
  drained = λ n v b s is le lt inside. absurd (both_ways _ (never_drained n s) is);
}

moved_script_sound : IsSoundScript moved.script
moved_script_sound = record {
  setting = IsSetting-plain_setting;
  buckets = refl;
  servers = refl;
  adds = (tt, tt);
  plan = moved_orderly;
  few_commands = omega arith;
  commands_rise = (omega arith, omega arith, tt);
  versions = (refl, refl);
  of_known = (tt, tt);
}

pub moved_sound : IsSound moved
moved_sound = record {
  script = moved_script_sound;
  capture = record {
    few = omega arith;
    rise = (omega arith, omega arith, (omega arith, omega arith, tt));
    fit = ((inl (refl, refl), omega arith), ((inl (refl, refl), omega arith), tt));
  };
}

moved_ends : next_event (setting_mux moved.script.setting) (setting_fate moved.script.setting) moved (replayed moved 9)
    ≡ None
unfolding replayed play has_flag is_opening flow_octets fnv_step fnv_1a flow_hash acceptable distance taken_reset
    comes_in_turn taken after_taken opened receiver_after
moved_ends = refl

-- the history
abbrev history : History
history = record { stage = moved; events = reverse (replayed moved 9) }

moved_replay : IsReplay (RouteBy (setting_mux moved.script.setting)) (RuleBy (setting_fate moved.script.setting))
    history
unfolding replayed
moved_replay =
    played_replay (setting_mux moved.script.setting) (setting_fate moved.script.setting) moved 9 moved_sound
    (mux_within moved moved_sound) moved_ends

-- the packet that is forwarded keeps to all premises
moved_unbroken : At history 5 IsUnbrokenArrival
unfolding replayed play has_flag is_opening flow_octets fnv_step fnv_1a flow_hash acceptable distance taken_reset
    comes_in_turn taken after_taken opened receiver_after
moved_unbroken = (refl, refl)
