-- Small stages are sound.
use Rattle.std.proofs.Common.{◌≡◌, ℕ, zero, suc, ◌*◌, ◌^◌, ◌≤◌, ◌<◌, Bool, true, false, if◌then◌else◌, List, [], ◌∷◌}
use Rattle.std.proofs.Common.{◌++◌, length, map, inl, inr, refl, sym, ap, subst, eqb, ◌∙◌, arith}
use Rattle.std.specs.Prelude.{◌≢◌, IfSome}
use Rattle.std.specs.List.{AllByRecursion}
use Rattle.std.proofs.lemmas.Bool.{cases_Bool, both_ways, eqb-true}
use Rattle.std.proofs.lemmas.List.Elements.{All-from_recursion}
use Rattle.bm_base.specs.declared.ids.ServerId.{ServerId}
use Rattle.bm_base.specs.declared.flow.Flow.{Flow}
use Rattle.bm_base.specs.declared.capture.Capture.{Capture}
use Rattle.bm_base.specs.declared.capture.Record.{Record}
use Rattle.bm_base.specs.Captures.{AreRising, IsFit, IsReplayable}
use Rattle.bm_table.specs.declared.script.Command.{Command}
use Rattle.bm_table.specs.declared.script.Command.TheVariants.{Change as ChangeCommand, Close as CloseCommand}
use Rattle.bm_table.specs.declared.plan.Kind.TheVariants.{Shift}
use Rattle.bm_table.specs.Planned.{Planned}
use Rattle.bm_table.specs.Scripts.{IsOfKnown, IsSoundScript, NamesVersions, moment_of_command}
use Rattle.bm_table.specs.Settings.{IsSetting, IsWithin, plain_setting}
use Rattle.bm_table.specs.Tables.{IsOrderly, brings, change_moment, is_drained, is_known, next_change, table}
use Rattle.bm_table.proofs.SettingLemmas.{IsSetting-plain_setting}
use Rattle.bm_core.specs.Stages.{IsSound}
use Rattle.bm_core.proofs.WorkedMoves.{moved}
use Rattle.bm_core.proofs.WorkedWhole.{moved_orderly}

-- CAPTURES

pub rising_push : (low x high : ℕ) (moments : List ℕ) → AreRising low x moments → low ≤ x → x ≤ high
    → AreRising low high (moments ++ x ∷ [])
rising_push low x high [] rise from to = (from, to, tt)
rising_push low x high (m ∷ moments) rise from to =
    (rise.0, (let h = rise.1 in omega arith), rising_push m x high moments rise.2 rise.1 to)

pub rising_higher : (low x high : ℕ) (moments : List ℕ) → AreRising low x moments → x ≤ high
    → AreRising low high moments
rising_higher low x high [] rise to = tt
rising_higher low x high (m ∷ moments) rise to =
    (rise.0, (let h = rise.1 in omega arith), rising_higher m x high moments rise.2 to)

pub fit_push : (records : List Record) (r : Record) → AllByRecursion (λ x. IsFit plain_setting.vips x) records
    → IsFit plain_setting.vips r → AllByRecursion (λ x. IsFit plain_setting.vips x) (records ++ r ∷ [])
fit_push [] r all is = (is, tt)
fit_push (x ∷ records) r all is = (all.0, fit_push records r all.1 is)

-- SETTINGS AND PLANS

row_setting : (capacity : ℕ) → IsWithin 1 65536 capacity
    → IsSetting (record plain_setting { shards = 1; capacity = capacity })
row_setting capacity within =
    let plain = IsSetting-plain_setting
    in record {
      buckets = plain.buckets;
      servers = plain.servers;
      rising = plain.rising;
      numbers = plain.numbers;
      racks = plain.racks;
      muxes = plain.muxes;
      shards = (omega arith, omega arith);
      capacity = within;
      timeout = plain.timeout;
      vips = plain.vips;
      ports = plain.ports;
      lag_of_each = plain.lag_of_each;
      lags = plain.lags;
      rows = plain.rows;
      faults = plain.faults;
    }

abbrev three_servers : List ServerId
three_servers = record { 0 = 1 } ∷ record { 0 = 2 } ∷ record { 0 = 3 } ∷ []

three_setting : IsSetting (record plain_setting { servers = three_servers; shards = 1; capacity = 4096 })
three_setting =
    let row = row_setting 4096 (omega arith, omega arith)
    in record {
      buckets = row.buckets;
      servers = (omega arith, omega arith);
      rising = (omega arith, (omega arith, (omega arith, tt)));
      numbers = All-from_recursion (λ (s : ServerId). s.0 ≤ 1024) three_servers
          (omega arith, (omega arith, (omega arith, tt)));
      racks = row.racks;
      muxes = row.muxes;
      shards = row.shards;
      capacity = row.capacity;
      timeout = row.timeout;
      vips = row.vips;
      ports = row.ports;
      lag_of_each = row.lag_of_each;
      lags = row.lags;
      rows = row.rows;
      faults = row.faults;
    }

abbrev bare_plan : Planned
bare_plan = record { buckets = 8; servers = record { 0 = 1 } ∷ record { 0 = 2 } ∷ []; changes = [] }

bare_drained : (n : ℕ) (s : ServerId) → is_drained bare_plan n s ≡ false
bare_drained zero s = refl
bare_drained (suc n) s = bare_drained n s

bare_orderly : IsOrderly bare_plan
bare_orderly = record {
  known = λ v b. tt;
  stamps = λ v w low inside. absurd (omega arith);
  changes = λ v b. tt;
  drained =
      λ n v b s is low inside bucket. absurd (let h : ◌≡◌ {A = Bool} false true = sym (bare_drained n s) ∙ is in cc);
}

-- bucket 4 goes from server 2 to server 3, and at the second moment to server 1
abbrev pub twice_moved_plan : ℕ → Planned
twice_moved_plan second = record {
  buckets = 8;
  servers = three_servers;
  changes =
      record { moment = record { 0 = 500 }; kind = Shift; moves = record { bucket = 4; to = record { 0 = 3 } } ∷ [] }
      ∷ record { moment = record { 0 = second }; kind = Shift; moves = record { bucket = 4; to = record { 0 = 1 } } ∷ [] }
      ∷ [];
}

twice_away : (second v b : ℕ)
    → IfSome (brings (next_change (twice_moved_plan second) v) b) (λ to. to ≢ (table (twice_moved_plan second) v b).cur)
twice_away second zero b = elim (cases_Bool (eqb 4 b)) [
  | inl same ↦
      let e : 4 ≡ b = eqb-true 4 b same
      in subst (λ (n : ℕ). IfSome (brings (next_change (twice_moved_plan second) 0) n)
      (λ to. to ≢ (table (twice_moved_plan second) 0 n).cur)) e
      (λ to. let n : ◌≡◌ {A = ℕ} 3 2 = ap (λ (x : ServerId). x.0) to in absurd (omega arith))
  | inr other ↦ rw other tt
]
twice_away second (suc zero) b = elim (cases_Bool (eqb 4 b)) [
  | inl same ↦
      let e : 4 ≡ b = eqb-true 4 b same
      in subst (λ (n : ℕ). IfSome (brings (next_change (twice_moved_plan second) 1) n)
      (λ to. to ≢ (table (twice_moved_plan second) 1 n).cur)) e
      (λ to. let n : ◌≡◌ {A = ℕ} 1 3 = ap (λ (x : ServerId). x.0) to in absurd (omega arith))
  | inr other ↦ rw other tt
]
twice_away second (suc (suc v)) b = tt

twice_known : (second v b : ℕ)
    → IfSome (brings (next_change (twice_moved_plan second) v) b)
    (λ to. is_known (twice_moved_plan second) (suc v) to ≡ true)
twice_known second zero b = elim (cases_Bool (eqb 4 b)) [ inl same ↦ rw same refl | inr other ↦ rw other tt ]
twice_known second (suc zero) b = elim (cases_Bool (eqb 4 b)) [ inl same ↦ rw same refl | inr other ↦ rw other tt ]
twice_known second (suc (suc v)) b = tt

twice_drained : (second n : ℕ) (s : ServerId) → is_drained (twice_moved_plan second) n s ≡ false
twice_drained second zero s = refl
twice_drained second (suc zero) s = refl
twice_drained second (suc (suc zero)) s = refl
twice_drained second (suc (suc (suc n))) s = twice_drained second (suc (suc n)) s

twice_stamps : (second v w : ℕ) → 500 < second → v ≤ w → w < 2
    → change_moment (next_change (twice_moved_plan second) v) ≤ change_moment (next_change (twice_moved_plan second) w)
twice_stamps second zero zero later low inside = omega arith
twice_stamps second zero (suc zero) later low inside = omega (arith, later)
twice_stamps second (suc zero) (suc zero) later low inside = omega arith
twice_stamps second (suc v) zero later low inside = absurd (omega (arith, low))
twice_stamps second (suc (suc v)) (suc zero) later low inside = absurd (omega (arith, low))
twice_stamps second v (suc (suc w)) later low inside = absurd (omega (arith, inside))

twice_orderly : (second : ℕ) → 500 < second → IsOrderly (twice_moved_plan second)
twice_orderly second later = record {
  known = twice_known second;
  stamps = λ v w low inside. twice_stamps second v w later low inside;
  changes = twice_away second;
  drained = λ n v b s is low inside bucket. absurd (both_ways _ (twice_drained second n s) is);
}

-- STAGES

abbrev row_flow : Flow
row_flow = record { src = 0x0a00_0001; dst = 0xc000_0201; sport = 1000; dport = 80 }

abbrev row_closes : List Command
row_closes =
    CloseCommand (record { 0 = 500 }) (record { 0 = 1 }) row_flow ∷ CloseCommand (record { 0 = 600 }) (record { 0 = 1 })
    row_flow ∷ []

bare_script : (capacity : ℕ) → IsWithin 1 65536 capacity → (commands : List Command) → length commands ≤ 65536
    → AreRising 0 (4 * 10 ^ 18) (map (λ c. moment_of_command bare_plan c) commands) → NamesVersions 1 0 commands
    → AllByRecursion (λ c. IsOfKnown bare_plan c) commands
    → IsSoundScript
    (record {
      setting = record plain_setting { shards = 1; capacity = capacity };
      plan = bare_plan;
      commands =
          commands;
    })
bare_script capacity within commands few rise names known = record {
  setting = row_setting capacity within;
  buckets = refl;
  servers = refl;
  adds = tt;
  plan = bare_orderly;
  few_commands = few;
  commands_rise = rise;
  versions = names;
  of_known = known;
}

closing_script : (capacity : ℕ) → IsWithin 1 65536 capacity → (closing : Bool)
    → IsSoundScript
    (record {
      setting = record plain_setting { shards = 1; capacity = capacity };
      plan = bare_plan;
      commands =
          if closing then row_closes else [];
    })
closing_script capacity within true =
    bare_script capacity within row_closes (omega arith) (omega arith, omega arith, (omega arith, omega arith, tt)) refl
    (refl, (refl, tt))
closing_script capacity within false = bare_script capacity within [] (omega arith) tt refl tt

pub bare_sound : (capacity : ℕ) → IsWithin 1 65536 capacity → (closing : Bool) (capture : Capture)
    → IsReplayable plain_setting.vips capture
    → IsSound
    (record {
      script =
          record {
            setting = record plain_setting { shards = 1; capacity = capacity };
            plan = bare_plan;
            commands =
                if closing then row_closes else [];
          };
      capture = capture;
    })
bare_sound capacity within closing capture fit =
    record { script = closing_script capacity within closing; capture = fit }

pub moved_sound : (capture : Capture) → IsReplayable plain_setting.vips capture
    → IsSound
    (record {
      script =
          record {
            setting = record plain_setting { shards = 1; capacity = 4096 };
            plan = moved.script.plan;
            commands =
                ChangeCommand (record { 0 = 1 }) ∷ [];
          };
      capture = capture;
    })
moved_sound capture fit = record {
  script = record {
    setting = row_setting 4096 (omega arith, omega arith);
    buckets = refl;
    servers = refl;
    adds = (tt, tt);
    plan = moved_orderly;
    few_commands = omega arith;
    commands_rise = (omega arith, omega arith, tt);
    versions = (refl, refl);
    of_known = (tt, tt);
  };
  capture = fit;
}

pub twice_moved_sound : (second : ℕ) → 500 < second → second ≤ 150000000000 → (capture : Capture)
    → IsReplayable plain_setting.vips capture
    → IsSound
    (record {
      script =
          record {
            setting = record plain_setting { servers = three_servers; shards = 1; capacity = 4096 };
            plan = twice_moved_plan second;
            commands =
                ChangeCommand (record { 0 = 1 }) ∷ ChangeCommand (record { 0 = 2 }) ∷ [];
          };
      capture = capture;
    })
twice_moved_sound second later soon capture fit = record {
  script = record {
    setting = three_setting;
    buckets = refl;
    servers = refl;
    adds = (tt, (tt, tt));
    plan = twice_orderly second later;
    few_commands = omega arith;
    commands_rise = (omega arith, omega arith, (omega (arith, later), omega (arith, soon), tt));
    versions = (refl, (refl, refl));
    of_known = (tt, (tt, tt));
  };
  capture = fit;
}
