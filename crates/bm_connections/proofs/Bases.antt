-- The base of a sound stage is sound.
use Rattle.std.proofs.Common.{◌≡◌, ℕ, zero, suc, ◌≤◌, Bool, true, false, inl, inr, List, [], ◌∷◌, length, map}
use Rattle.std.proofs.Common.{◌*◌, ◌^◌, filter, refl, sym, ◌∙◌, arith}
use Rattle.std.specs.List.{AllByRecursion}
use Rattle.std.proofs.lemmas.Bool.{cases_Bool}
use Rattle.std.proofs.lemmas.List.Sums.{count_by-le-length, length-filter}
use Rattle.bm_base.specs.declared.ids.ServerId.{ServerId}
use Rattle.bm_base.specs.Captures.{AreRising}
use Rattle.bm_table.specs.declared.script.Command.{Command}
use Rattle.bm_table.specs.declared.script.Command.TheVariants.{Change as ChangeCommand}
use Rattle.bm_table.specs.declared.script.Command.TheVariants.{Close as CloseCommand}
use Rattle.bm_table.specs.declared.script.Command.TheVariants.{Retire as RetireCommand}
use Rattle.bm_table.specs.declared.script.Command.TheVariants.{Sync as SyncCommand}
use Rattle.bm_table.specs.declared.script.Script.{Script}
use Rattle.bm_table.specs.declared.setting.Setting.{Setting}
use Rattle.bm_table.specs.Planned.{Planned}
use Rattle.bm_table.specs.Scripts.{moment_of_command, IsOfKnown, IsSoundScript, NamesVersions}
use Rattle.bm_table.specs.Settings.{RiseFrom}
use Rattle.bm_table.specs.Tables.{is_among, is_drained, IsOrderly}
use Rattle.bm_core.specs.declared.events.Stage.{Stage}
use Rattle.bm_core.specs.Stages.{IsSound}
use Rattle.bm_connections.specs.Base.{base_of, base_plan, base_script, stays}

pub rises_from_0 : (servers : List ServerId) → RiseFrom 1 servers → RiseFrom 0 servers
rises_from_0 [] rise = tt
rises_from_0 (s ∷ servers) rise = (omega (arith, rise.0), rise.1)

-- THE PLAN

never_drained : (setting : Setting) (n : ℕ) (s : ServerId) → is_drained (base_plan setting) n s ≡ false
never_drained setting zero s = refl
never_drained setting (suc n) s = never_drained setting n s

orderly : (setting : Setting) → IsOrderly (base_plan setting)
orderly setting = record {
  known = λ v b. tt;
  stamps = λ v w le below. omega arith;
  changes = λ v b. tt;
  drained = λ n v b s drained first last within.
      let no : false ≡ true = sym (never_drained setting n s) ∙ drained in absurd (cc);
}

-- THE COMMANDS

-- no command names a version
names_none : (servers : List ServerId) (commands : List Command) → NamesVersions 1 0 (filter (stays servers) commands)
names_none servers [] = refl
names_none servers (ChangeCommand v ∷ rest) = names_none servers rest
names_none servers (CloseCommand at server flow ∷ rest) = elim (cases_Bool (is_among servers server)) [
  | inl is ↦ rw is (names_none servers rest)
  | inr isnt ↦ rw isnt (names_none servers rest)
]
names_none servers (RetireCommand at server ∷ rest) = elim (cases_Bool (is_among servers server)) [
  | inl is ↦ rw is (names_none servers rest)
  | inr isnt ↦ rw isnt (names_none servers rest)
]
names_none servers (SyncCommand at ∷ rest) = names_none servers rest

-- a close or a retire is of a server of the setting
of_known : (setting : Setting) (commands : List Command) →
    AllByRecursion (λ c. IsOfKnown (base_plan setting) c) (filter (stays setting.servers) commands)
of_known setting [] = tt
of_known setting (ChangeCommand v ∷ rest) = of_known setting rest
of_known setting (CloseCommand at server flow ∷ rest) = elim (cases_Bool (is_among setting.servers server)) [
  | inl is ↦ rw is (is, of_known setting rest)
  | inr isnt ↦ rw isnt (of_known setting rest)
]
of_known setting (RetireCommand at server ∷ rest) = elim (cases_Bool (is_among setting.servers server)) [
  | inl is ↦ rw is (is, of_known setting rest)
  | inr isnt ↦ rw isnt (of_known setting rest)
]
of_known setting (SyncCommand at ∷ rest) = (tt, of_known setting rest)

rises_lower : (low mid high : ℕ) (moments : List ℕ) → low ≤ mid → AreRising mid high moments →
    AreRising low high moments
rises_lower low mid high [] le rise = tt
rises_lower low mid high (m ∷ moments) le rise = (omega (arith, le, rise.0), rise.1, rise.2)

abbrev moments_in : Planned → List Command → List ℕ
moments_in plan commands = map (λ c. moment_of_command plan c) commands

-- the moments of what stays rise
rises_kept : (plan : Planned) (setting : Setting) (low high : ℕ) (commands : List Command) →
    AreRising low high (moments_in plan commands) →
    AreRising low high (moments_in (base_plan setting) (filter (stays setting.servers) commands))
rises_kept plan setting low high [] rise = tt
rises_kept plan setting low high (ChangeCommand v ∷ rest) rise =
    let m = moment_of_command plan (ChangeCommand v) in
    let later = moments_in (base_plan setting) (filter (stays setting.servers) rest) in
    rises_lower low m high later rise.0 (rises_kept plan setting m high rest rise.2)
rises_kept plan setting low high (CloseCommand at server flow ∷ rest) rise =
    let later = moments_in (base_plan setting) (filter (stays setting.servers) rest) in
    let more = rises_kept plan setting at.0 high rest rise.2 in
    elim (cases_Bool (is_among setting.servers server)) [
      | inl is ↦ rw is (rise.0, rise.1, more)
      | inr isnt ↦ rw isnt (rises_lower low at.0 high later rise.0 more)
    ]
rises_kept plan setting low high (RetireCommand at server ∷ rest) rise =
    let later = moments_in (base_plan setting) (filter (stays setting.servers) rest) in
    let more = rises_kept plan setting at.0 high rest rise.2 in
    elim (cases_Bool (is_among setting.servers server)) [
      | inl is ↦ rw is (rise.0, rise.1, more)
      | inr isnt ↦ rw isnt (rises_lower low at.0 high later rise.0 more)
    ]
rises_kept plan setting low high (SyncCommand at ∷ rest) rise =
    (rise.0, rise.1, rises_kept plan setting at.0 high rest rise.2)

few : (p : Command → Bool) (commands : List Command) → length commands ≤ 65536 → length (filter p commands) ≤ 65536
few p commands most = omega (arith, most, length-filter p commands, count_by-le-length p commands)

-- THE STAGE

sound_script : (script : Script) → IsSoundScript script → IsSoundScript (base_script script)
sound_script script sound = record {
  setting = sound.setting;
  buckets = refl;
  servers = refl;
  adds = tt;
  plan = orderly script.setting;
  few_commands = few (stays script.setting.servers) script.commands sound.few_commands;
  commands_rise = rises_kept script.plan script.setting 0 (4 * 10 ^ 18) script.commands sound.commands_rise;
  versions = names_none script.setting.servers script.commands;
  of_known = of_known script.setting script.commands;
}

pub base_sound : (stage : Stage) → IsSound stage → IsSound (base_of stage)
base_sound stage sound = record { script = sound_script stage.script sound.script; capture = sound.capture }
