-- The moments of a sound script and of a sound stage are in range.
use Rattle.std.proofs.Common.{◌≡◌, ℕ, zero, suc, ◌+◌, ◌-◌, ◌*◌, ◌^◌, ◌≤◌, inl, inr, List, [], ◌∷◌, Option, length}
use Rattle.std.proofs.Common.{sym, subst, arith}
use Rattle.std.specs.Prelude.{map, slice_get}
use Rattle.std.proofs.lemmas.Bool.{cases_lt}
use Rattle.std.proofs.lemmas.Option.{slice_get_cases}
use Rattle.bm_base.specs.declared.capture.Record.{Record}
use Rattle.bm_base.specs.Captures.{AreRising}
use Rattle.bm_table.specs.declared.plan.Change.{Change}
use Rattle.bm_table.specs.declared.script.Command.{Command}
use Rattle.bm_table.specs.declared.script.Command.TheVariants.{Change as ChangeCommand, Close as CloseCommand}
use Rattle.bm_table.specs.declared.script.Command.TheVariants.{Retire as RetireCommand, Sync as SyncCommand}
use Rattle.bm_table.specs.declared.script.Script.{Script}
use Rattle.bm_table.specs.Planned.{Planned}
use Rattle.bm_table.specs.Scripts.{moment_of_command, IsSoundScript, NamesVersions}
use Rattle.bm_table.specs.Tables.{change_moment, next_change}
use Rattle.bm_core.specs.declared.events.Stage.{Stage}
use Rattle.bm_core.specs.Stages.{IsSound}
use Rattle.bm_core.specs.Threads.{moment_at, moment_in, record_moment}

changes_early : (plan : Planned) (low top next last : ℕ) (commands : List Command)
    → AreRising low top (map (λ c. moment_of_command plan c) commands) → NamesVersions next last commands
    → (v : ℕ) → next ≤ v → v ≤ last → change_moment (next_change plan (v - 1)) ≤ top
changes_early plan low top next last [] rise names v from to = absurd (omega arith)
changes_early plan low top next last (ChangeCommand w ∷ commands) rise names v from to = elim (cases_lt next v) [
  | inl later ↦ changes_early plan (moment_of_command plan (ChangeCommand w)) top (next + 1) last commands rise.2
      names.1 v (omega arith) to
  | inr now ↦
      let same : w.0 ≡ v = (let e = names.0 in omega arith)
      in subst (λ (n : ℕ). change_moment (next_change plan (n - 1)) ≤ top) same rise.1
]
changes_early plan low top next last (CloseCommand at s f ∷ commands) rise names v from to =
    changes_early plan at.0 top next last commands rise.2 names v from to
changes_early plan low top next last (RetireCommand at s ∷ commands) rise names v from to =
    changes_early plan at.0 top next last commands rise.2 names v from to
changes_early plan low top next last (SyncCommand at ∷ commands) rise names v from to =
    changes_early plan at.0 top next last commands rise.2 names v from to

-- no change of a sound script is later than this
pub change_early : (script : Script) → IsSoundScript script → (v : ℕ)
    → change_moment (next_change script.plan v) ≤ 4 * 10 ^ 18
change_early script sound v = elim (slice_get_cases script.plan.changes v).1 [
  | inl there ↦
      let h =
      changes_early script.plan 0 (4 * 10 ^ 18) 1 (length script.plan.changes) script.commands
      sound.commands_rise sound.versions (suc v) (omega arith) (let a = there.1 in omega arith)
      in let one_less : suc v - 1 ≡ v = omega arith
      in subst (λ (n : ℕ). change_moment (next_change script.plan n) ≤ 4 * 10 ^ 18) one_less h
  | inr beyond ↦ subst (λ (o : Option Change). change_moment o ≤ 4 * 10 ^ 18) (sym beyond.1) (omega arith)
]

commands_early : (plan : Planned) (low top : ℕ) (commands : List Command)
    → AreRising low top (map (λ c. moment_of_command plan c) commands) → (i : ℕ)
    → moment_at (slice_get commands i) ≤ top
commands_early plan low top [] rise i = omega arith
commands_early plan low top (ChangeCommand v ∷ commands) rise zero = omega arith
commands_early plan low top (CloseCommand at s f ∷ commands) rise zero = rise.1
commands_early plan low top (RetireCommand at s ∷ commands) rise zero = rise.1
commands_early plan low top (SyncCommand at ∷ commands) rise zero = rise.1
commands_early plan low top (c ∷ commands) rise (suc i) =
    commands_early plan (moment_of_command plan c) top commands rise.2 i

records_early : (low top : ℕ) (records : List Record) → AreRising low top (map (λ r. r.moment.0) records) → (i : ℕ)
    → moment_in (slice_get records i) ≤ top
records_early low top [] rise i = omega arith
records_early low top (r ∷ records) rise zero = rise.1
records_early low top (r ∷ records) rise (suc i) = records_early r.moment.0 top records rise.2 i

-- no moment of the stage is late
pub record AreEarly (stage : Stage) : Type 0 where
  pub changes : (v : ℕ) → change_moment (next_change stage.script.plan v) ≤ 45 * 10 ^ 17
  pub commands : (i : ℕ) → moment_at (slice_get stage.script.commands i) ≤ 45 * 10 ^ 17
  pub records : (k : ℕ) → record_moment stage k ≤ 45 * 10 ^ 17

record_early : (stage : Stage) → IsSound stage → (k : ℕ) → record_moment stage k ≤ 45 * 10 ^ 17
record_early stage sound zero = omega arith
record_early stage sound (suc i) = let h = records_early 0 (44 * 10 ^ 17) stage.capture.records sound.capture.rise i
    in omega arith

-- so it is where the stage is sound
pub sound_early : (stage : Stage) → IsSound stage → AreEarly stage
sound_early stage sound = record {
  changes = λ v. let h = change_early stage.script sound.script v in omega arith;
  commands =
      λ i. let h =
      commands_early stage.script.plan 0 (4 * 10 ^ 18) stage.script.commands sound.script.commands_rise i
      in omega arith;
  records = λ k. record_early stage sound k;
}
