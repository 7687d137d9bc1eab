-- Which scripts are sound (docs/DEFINITIONS.md): a setting within its ranges, an orderly plan that
-- opens on the setting's servers, and commands that lead through it.
use Rattle.std.specs.Prelude.{◌-◌, map, ◌≡◌, ℕ, ◌+◌, ◌*◌, ◌^◌, ◌≤◌, true, List, [], ◌∷◌, length}
use Rattle.std.specs.List.{AllByRecursion}
use Rattle.bm_base.specs.Captures.{AreRising}
use Rattle.bm_table.specs.Planned.{Planned}
use Rattle.bm_table.specs.declared.plan.Kind.{Kind}
use Rattle.bm_table.specs.declared.plan.Kind.TheVariants.{Add}
use Rattle.bm_table.specs.declared.script.Command.{Command}
use Rattle.bm_table.specs.declared.script.Command.TheVariants.{Change as ChangeCommand}
use Rattle.bm_table.specs.declared.script.Command.TheVariants.{Close as CloseCommand}
use Rattle.bm_table.specs.declared.script.Command.TheVariants.{Retire as RetireCommand}
use Rattle.bm_table.specs.declared.script.Command.TheVariants.{Sync as SyncCommand}
use Rattle.bm_table.specs.declared.script.Script.{Script}
use Rattle.bm_table.specs.Settings.{IsSetting, IsWithin}
use Rattle.bm_table.specs.Tables.{is_known, next_change, change_moment, IsOrderly}

-- the moment at which a command is due: a change's own, or the one that the command states
abbrev pub moment_of_command : Planned → Command → ℕ
moment_of_command plan (ChangeCommand v) = change_moment (next_change plan (v.0 - 1))
moment_of_command plan (CloseCommand at server flow) = at.0
moment_of_command plan (RetireCommand at server) = at.0
moment_of_command plan (SyncCommand at) = at.0

-- the Change commands name the versions from `next` to `top`, in order
abbrev pub NamesVersions : ℕ → ℕ → List Command → Type 0
NamesVersions next top [] = next ≡ top + 1
NamesVersions next top (ChangeCommand v ∷ rest) = (v.0 ≡ next) × NamesVersions (next + 1) top rest
NamesVersions next top (_ ∷ rest) = NamesVersions next top rest

-- a Close or a Retire is of a server that the plan knows
abbrev pub IsOfKnown : Planned → Command → Type 0
IsOfKnown plan (CloseCommand at server flow) = is_known plan (length plan.changes) server ≡ true
IsOfKnown plan (RetireCommand at server) = is_known plan (length plan.changes) server ≡ true
IsOfKnown plan _ = Unit {0}

-- a change that adds a server names a server number
abbrev pub NamesServer : Kind → Type 0
NamesServer (Add s) = IsWithin 1 1024 s.0
NamesServer _ = Unit {0}

-- what a replay may be asked to carry out
pub record IsSoundScript (script : Script) : Type 0 where
  pub setting : IsSetting script.setting
  -- the plan opens on the setting's buckets and servers, and is orderly
  pub buckets : script.plan.buckets ≡ script.setting.buckets
  pub servers : script.plan.servers ≡ script.setting.servers
  pub adds : AllByRecursion (λ c. NamesServer c.kind) script.plan.changes
  pub plan : IsOrderly script.plan
  -- the commands' moments never decrease, and the Change commands name the plan's versions in order
  pub few_commands : length script.commands ≤ 65536
  pub commands_rise : AreRising 0 (4 * 10 ^ 18)
      (map (λ c. moment_of_command script.plan c) script.commands)
  pub versions : NamesVersions 1 (length script.plan.changes) script.commands
  pub of_known : AllByRecursion (λ c. IsOfKnown script.plan c) script.commands
