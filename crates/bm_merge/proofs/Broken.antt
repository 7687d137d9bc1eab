-- Histories that are runs, but no threaded runs: for each thing that the definition of a threaded run asks for,
-- histories that lack it alone. What they share stands here.
use Rattle.std.proofs.Common.{◌≡◌, ℕ, zero, suc, ◌*◌, ◌^◌, ◌≤◌, false, List, [], None}
use Rattle.std.proofs.Common.{length, refl, subst, arith}
use Rattle.std.specs.Prelude.{IfSome, map, ◌⊎◌, reverse}
use Rattle.std.proofs.lemmas.List.{reverse-reverse}
use Rattle.std.specs.List.{AllByRecursion}
use Rattle.std.proofs.lemmas.Bool.{both_ways}
use Rattle.bm_base.specs.declared.ids.Moment.{Moment}
use Rattle.bm_base.specs.declared.ids.ServerId.{ServerId}
use Rattle.bm_base.specs.declared.fate.Fate.{Fate}
use Rattle.bm_base.specs.declared.label.Label.{Label}
use Rattle.bm_base.specs.declared.capture.Record.{Record}
use Rattle.bm_table.specs.declared.script.Command.{Command}
use Rattle.bm_table.specs.Scripts.{moment_of_command, NamesVersions, IsOfKnown}
use Rattle.bm_table.specs.Settings.{plain_setting}
use Rattle.bm_table.specs.Tables.{is_drained, IsOrderly}
use Rattle.bm_table.proofs.SettingLemmas.{IsSetting-plain_setting}
use Rattle.bm_core.specs.declared.events.Event.{Event}
use Rattle.bm_core.specs.declared.events.Stage.{Stage}
use Rattle.bm_core.specs.Stages.{IsSound, AreRising, IsFit}
use Rattle.bm_core.specs.Runs.{AtEach, actor_of, Run}
use Rattle.bm_core.specs.Accounts.{Routes, Rules, IsAccountOf}
use Rattle.bm_core.specs.Rules.{RouteBy, RuleBy, setting_mux, setting_fate}
use Rattle.bm_core.specs.Threads.{FollowsInThreads, IsThreadedRun}
use Rattle.bm_core.specs.Threads.{IsOf, command_at, progress_at, packet_of, phase_of, last_own, IsTimed}
use Rattle.bm_core.specs.Threads.{phase}
use Rattle.bm_core.specs.Threads.{HaveLooked}
use Rattle.bm_core.proofs.Worked.{server, stage_of}

-- STAGES without changes

abbrev pub moment : ℕ → Moment
moment n = record { 0 = n }

abbrev pub quiet : List Command → List Record → Stage
quiet commands records = stage_of plain_setting [] commands records

never_drained : (commands : List Command) (records : List Record) (n : ℕ) (s : ServerId)
    → is_drained (quiet commands records).script.plan n s ≡ false
never_drained commands records zero s = refl
never_drained commands records (suc n) s = never_drained commands records n s

orderly : (commands : List Command) (records : List Record) → IsOrderly (quiet commands records).script.plan
orderly commands records = record {
  known = λ v b. tt;
  stamps = λ v w le lt. absurd (omega arith);
  changes = λ v b. tt;
  drained = λ n v b s is le lt inside. absurd (both_ways _ (never_drained commands records n s) is);
}

-- few commands, in rising moments, of known servers; few records, in rising moments, that fit
pub quiet_sound : (commands : List Command) (records : List Record) → length commands ≤ 65536
    → AreRising 0 (4 * 10 ^ 18) (map (λ c. moment_of_command (quiet commands records).script.plan c) commands)
    → NamesVersions 1 0 commands → AllByRecursion (λ c. IsOfKnown (quiet commands records).script.plan c) commands
    → length records ≤ 200000 → AreRising 0 (44 * 10 ^ 17) (map (λ r. r.moment.0) records)
    → AllByRecursion (λ r. IsFit plain_setting.vips r) records → IsSound (quiet commands records)
quiet_sound commands records few rise versions known few_records records_rise fit = record {
  script = record {
    setting = IsSetting-plain_setting;
    buckets = refl;
    servers = refl;
    adds = tt;
    plan = orderly commands records;
    few_commands = few;
    commands_rise = rise;
    versions = versions;
    of_known = known;
  };
  capture = record { few = few_records; rise = records_rise; fit = fit };
}

-- the label of a flow whose bucket opened on this server
abbrev pub opening_label : ℕ → Label
opening_label s =
    record {
      mux = record { 0 = 0 };
      version = record { 0 = 0 };
      entry = record { cur = server s; prev = None; older = None };
    }

-- WHAT AN EVENT KEEPS, where each sending has one copy without delay

abbrev pub IsOrdered : Stage → List Event → Event → Type 0
IsOrdered stage past e = IsOf (command_at stage past) (progress_at stage past).shards e.what

abbrev pub IsInPhase : Stage → List Event → Event → Type 0
IsInPhase stage past e = IfSome (packet_of e.what) (λ k. phase past ≡ phase_of stage k)

abbrev pub IsInTime : Stage → List Event → Event → Type 0
IsInTime stage past e = IsTimed [] stage past (last_own stage past (actor_of stage e.what)) e.clock.0 e.what

-- all is accounted for, by the stage's own route and impairment rule
abbrev pub IsAccounted : Stage → List Event → Type 0
IsAccounted stage events =
    IsAccountOf (RouteBy (setting_mux stage.script.setting)) (RuleBy (setting_fate stage.script.setting)) stage []
    events

-- the events are a run that is accounted for, and each keeps all but the phase
pub record LacksPhase (stage : Stage) (events : List Event) : Type 0 where
  pub sound : IsSound stage
  pub run : Run stage events
  pub account : IsAccounted stage events
  pub steps : AtEach (λ past e. IsOrdered stage past e × IsInTime stage past e) events
  pub looked : HaveLooked stage events

-- all but the script's order
pub record LacksOrder (stage : Stage) (events : List Event) : Type 0 where
  pub sound : IsSound stage
  pub run : Run stage events
  pub account : IsAccounted stage events
  pub steps : AtEach (λ past e. IsInPhase stage past e × IsInTime stage past e) events
  pub looked : HaveLooked stage events

-- all of it, except what is asked of the time of the event with n before it
pub record LacksTime (stage : Stage) (n : ℕ) (events : List Event) : Type 0 where
  pub sound : IsSound stage
  pub run : Run stage events
  pub account : IsAccounted stage events
  pub steps : AtEach
      (λ past e. IsOrdered stage past e × IsInPhase stage past e × ((length past ≡ n) ⊎ IsInTime stage past e)) events
  pub looked : HaveLooked stage events

-- all, but that each mux has looked in the last phase
pub record LacksLook (stage : Stage) (events : List Event) : Type 0 where
  pub sound : IsSound stage
  pub run : Run stage events
  pub account : IsAccounted stage events
  pub steps : AtEach (λ past e. IsOrdered stage past e × IsInPhase stage past e × IsInTime stage past e) events

-- SO THEY ARE NO THREADED RUNS, whatever the fates, the route and the impairment rule

abbrev pub IsRefused : Stage → List Event → Type 0
IsRefused stage events = (fates : List Fate) → FollowsInThreads fates stage events → ⊥

pub no_threaded_run : (R : Routes) (F : Rules) (stage : Stage) (events : List Event) → IsRefused stage events
    → IsThreadedRun R F (record { stage = stage; events = reverse events }) → ⊥
no_threaded_run R F stage events refused is =
    refused is.fates
    (subst (λ (l : List Event). FollowsInThreads is.fates stage l) (reverse-reverse events) is.follows)
