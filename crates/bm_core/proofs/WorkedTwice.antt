-- The history of a connection whose bucket moves twice, whole: its stage is sound, it is the replay of its stage, and
-- the premises of its second packet hold at all three arrivals. So the packet is kept, though it is forwarded twice.
use Rattle.std.proofs.Common.{◌≡◌, ℕ, zero, suc, ◌<◌, ◌≤◌, length, true, false, inl, inr, [], ◌∷◌, None, refl, ap}
use Rattle.std.proofs.Common.{subst, eqb, arith}
use Rattle.std.specs.Prelude.{◌≢◌, IfSome, reverse}
use Rattle.std.proofs.lemmas.Bool.{cases_Bool, both_ways, eqb-true}
use Rattle.std.proofs.lemmas.List.Elements.{All-from_recursion}
use Rattle.bm_base.specs.declared.ids.ServerId.{ServerId}
use Rattle.bm_base.specs.declared.receive.Taken.TheVariants.{Advance}
use Rattle.bm_base.specs.Segments.{has_flag, is_opening}
use Rattle.bm_table.specs.Tables.{brings, change_moment, next_change, table, is_drained, is_known, IsOrderly}
use Rattle.bm_table.specs.Settings.{IsSetting}
use Rattle.bm_table.proofs.SettingLemmas.{IsSetting-plain_setting}
use Rattle.bm_hash.specs.Buckets.{flow_octets, fnv_step, fnv_1a, flow_hash}
use Rattle.bm_seq.specs.Receivers.{acceptable, distance, taken_reset, comes_in_turn, taken, after_taken, opened}
use Rattle.bm_seq.specs.Receivers.{receiver_after}
use Rattle.bm_core.specs.declared.events.History.{History}
use Rattle.bm_core.specs.declared.events.Verdict.TheVariants.{Process}
use Rattle.bm_core.specs.Stages.{IsSound, IsSoundScript}
use Rattle.bm_core.specs.Laws.{At, IsUnbrokenArrival, IsUnbrokenPacket}
use Rattle.bm_core.specs.Rules.{setting_mux, setting_fate, RouteBy, RuleBy}
use Rattle.bm_core.specs.Histories.{IsReplay}
use Rattle.bm_core.specs.Ends.{AtServer, packet_ends, IsKept, IsSingle, IsUnlost}
use Rattle.bm_core.proofs.Ends.{kept_law}
use Rattle.bm_core.proofs.Playing.{play, next_event, mux_within}
use Rattle.bm_core.proofs.Ended.{played_replay}
use Rattle.bm_core.proofs.Worked.{replayed, server}
use Rattle.bm_core.proofs.WorkedMoves.{moved_twice}

moves_away : (v b : ℕ)
    → IfSome (brings (next_change moved_twice.script.plan v) b) (λ to. to ≢ (table moved_twice.script.plan v b).cur)
moves_away zero b = elim (cases_Bool (eqb 4 b)) [
  | inl same ↦
      let e : 4 ≡ b = eqb-true 4 b same
      in subst (λ (n : ℕ). IfSome (brings (next_change moved_twice.script.plan 0) n)
      (λ to. to ≢ (table moved_twice.script.plan 0 n).cur)) e
      (λ to. let n : ◌≡◌ {A = ℕ} 3 2 = ap (λ (x : ServerId). x.0) to in absurd (omega arith))
  | inr other ↦ rw other tt
]
moves_away (suc zero) b = elim (cases_Bool (eqb 4 b)) [
  | inl same ↦
      let e : 4 ≡ b = eqb-true 4 b same
      in subst (λ (n : ℕ). IfSome (brings (next_change moved_twice.script.plan 1) n)
      (λ to. to ≢ (table moved_twice.script.plan 1 n).cur)) e
      (λ to. let n : ◌≡◌ {A = ℕ} 1 3 = ap (λ (x : ServerId). x.0) to in absurd (omega arith))
  | inr other ↦ rw other tt
]
moves_away (suc (suc v)) b = tt

moves_known : (v b : ℕ)
    → IfSome (brings (next_change moved_twice.script.plan v) b)
    (λ to. is_known moved_twice.script.plan (suc v) to ≡ true)
moves_known zero b = elim (cases_Bool (eqb 4 b)) [ inl same ↦ rw same refl | inr other ↦ rw other tt ]
moves_known (suc zero) b = elim (cases_Bool (eqb 4 b)) [ inl same ↦ rw same refl | inr other ↦ rw other tt ]
moves_known (suc (suc v)) b = tt

never_drained : (n : ℕ) (s : ServerId) → is_drained moved_twice.script.plan n s ≡ false
never_drained zero s = refl
never_drained (suc zero) s = refl
never_drained (suc (suc zero)) s = refl
never_drained (suc (suc (suc n))) s = never_drained (suc (suc n)) s

pub twice_orderly : IsOrderly moved_twice.script.plan
twice_orderly = record {
  known = moves_known;
  stamps = stamps_rise;
  changes = moves_away;
  drained = λ n v b s is le lt inside. absurd (both_ways _ (never_drained n s) is);
} where
  stamps_rise : (v w : ℕ) → v ≤ w → w < length moved_twice.script.plan.changes
      → change_moment (next_change moved_twice.script.plan v) ≤ change_moment (next_change moved_twice.script.plan w)
  stamps_rise zero zero le lt = omega arith
  stamps_rise zero (suc zero) le lt = omega arith
  stamps_rise (suc zero) (suc zero) le lt = omega arith
  stamps_rise (suc v) zero le lt = absurd (omega arith)
  stamps_rise v (suc (suc w)) le lt = absurd (omega arith)
  stamps_rise (suc (suc v)) (suc zero) le lt = absurd (omega arith)

twice_setting : IsSetting moved_twice.script.setting
twice_setting =
    let plain = IsSetting-plain_setting in record {
      buckets = plain.buckets;
      servers = (omega arith, omega arith);
      rising = (omega arith, (omega arith, (omega arith, tt)));
      numbers =
          All-from_recursion (λ (s : ServerId). s.0 ≤ 1024) moved_twice.script.setting.servers
          (omega arith, (omega arith, (omega arith, tt)));
      racks = plain.racks;
      muxes = plain.muxes;
      shards = plain.shards;
      capacity = plain.capacity;
      timeout = plain.timeout;
      vips = plain.vips;
      ports = plain.ports;
      lag_of_each = plain.lag_of_each;
      lags = plain.lags;
      rows = plain.rows;
      faults = plain.faults;
    }

twice_script_sound : IsSoundScript moved_twice.script
twice_script_sound = record {
  setting = twice_setting;
  buckets = refl;
  servers = refl;
  adds = (tt, (tt, tt));
  plan = twice_orderly;
  few_commands = omega arith;
  commands_rise = (omega arith, omega arith, (omega arith, omega arith, tt));
  versions = (refl, (refl, refl));
  of_known = (tt, (tt, tt));
}

pub twice_sound : IsSound moved_twice
twice_sound = record {
  script = twice_script_sound;
  capture = record {
    few = omega arith;
    rise = (omega arith, omega arith, (omega arith, omega arith, tt));
    fit = ((inl (refl, refl), omega arith), ((inl (refl, refl), omega arith), tt));
  };
}

twice_ends : next_event (setting_mux moved_twice.script.setting) (setting_fate moved_twice.script.setting) moved_twice
    (replayed moved_twice 12)
    ≡ None
unfolding replayed play has_flag is_opening flow_octets fnv_step fnv_1a flow_hash acceptable distance taken_reset
    comes_in_turn taken after_taken opened receiver_after
twice_ends = refl

-- the history
abbrev history : History
history = record { stage = moved_twice; events = reverse (replayed moved_twice 12) }

twice_replay : IsReplay (RouteBy (setting_mux moved_twice.script.setting))
    (RuleBy (setting_fate moved_twice.script.setting)) history
unfolding replayed
twice_replay =
    played_replay (setting_mux moved_twice.script.setting) (setting_fate moved_twice.script.setting) moved_twice 12
    twice_sound (mux_within moved_twice twice_sound) twice_ends

-- the data keeps to all premises where it arrives first, where it is forwarded to, and where it is forwarded again
direct_unbroken : At history 7 IsUnbrokenArrival
unfolding replayed play has_flag is_opening flow_octets fnv_step fnv_1a flow_hash acceptable distance taken_reset
    comes_in_turn taken after_taken opened receiver_after
direct_unbroken = (refl, refl)

chained_unbroken : At history 8 IsUnbrokenArrival
unfolding replayed play has_flag is_opening flow_octets fnv_step fnv_1a flow_hash acceptable distance taken_reset
    comes_in_turn taken after_taken opened receiver_after
chained_unbroken = (refl, refl)

twice_unbroken : At history 9 IsUnbrokenArrival
unfolding replayed play has_flag is_opening flow_octets fnv_step fnv_1a flow_hash acceptable distance taken_reset
    comes_in_turn taken after_taken opened receiver_after
twice_unbroken = (refl, refl)

twice_unbroken_packet : IsUnbrokenPacket moved_twice (reverse history.events) 2
unfolding replayed play has_flag is_opening flow_octets fnv_step fnv_1a flow_hash acceptable distance taken_reset
    comes_in_turn taken after_taken opened receiver_after
twice_unbroken_packet = (
  λ is. (refl, refl),
  (
    λ is. (refl, refl),
    (λ is. (refl, refl), (no_way, (no_way, (no_way, (no_way, (no_way, (no_way, (no_way, tt)))))))),
  ),
) where
  no_way : {P : Type 0} → false ≡ true → P
  no_way e = absurd (cc)

-- so it is kept: it is processed once, by the server that accepted its connection
twice_kept : IsKept (RuleBy (setting_fate moved_twice.script.setting)) moved_twice (reverse history.events) 2
unfolding replayed play has_flag is_opening flow_octets fnv_step fnv_1a flow_hash acceptable distance taken_reset
    comes_in_turn taken after_taken opened receiver_after
twice_kept =
    kept_law (RouteBy (setting_mux moved_twice.script.setting)) (RuleBy (setting_fate moved_twice.script.setting))
    history 2 twice_replay.fates twice_replay.run refl twice_unbroken_packet twice_replay.account

-- each of its sendings has one copy, and none is lost
twice_single : IsSingle (RuleBy (setting_fate moved_twice.script.setting)) 2
twice_single hop fate is = rw is (omega arith)

twice_unlost : IsUnlost (reverse history.events) 2
unfolding replayed play has_flag is_opening flow_octets fnv_step fnv_1a flow_hash acceptable distance taken_reset
    comes_in_turn taken after_taken opened receiver_after
twice_unlost hop = refl

twice_processed : packet_ends (reverse history.events) 2 ≡ AtServer (server 2) (Process Advance) ∷ []
unfolding replayed play has_flag is_opening flow_octets fnv_step fnv_1a flow_hash acceptable distance taken_reset
    comes_in_turn taken after_taken opened receiver_after
twice_processed = refl
