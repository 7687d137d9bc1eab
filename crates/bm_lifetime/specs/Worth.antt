-- Scripts that the lifetime of a script is compared with.
use Rattle.std.specs.Prelude.{ℕ, ◌+◌, ◌≤◌, List, ◌++◌, map, take, drop, Option, Some, None}
use Rattle.bm_table.specs.declared.plan.Change.{Change}
use Rattle.bm_table.specs.declared.script.Script.{Script}

-- the first lifetime is no longer than the second. None is the longest.
abbrev pub IsNoLonger : Option ℕ → Option ℕ → Type 0
IsNoLonger a None = Unit {0}
IsNoLonger None (Some b) = ⊥
IsNoLonger (Some a) (Some b) = a ≤ b

-- the script with another timeout
abbrev pub with_timeout : Script → ℕ → Script
with_timeout script timeout = record script { setting = record script.setting { timeout = timeout } }

-- the script with other changes; its commands stay, since lifetimes don't read them
abbrev pub with_changes : Script → List Change → Script
with_changes script changes = record script { plan = record script.plan { changes = changes } }

-- the script with its first n changes alone
abbrev pub with_first : Script → ℕ → Script
with_first script n = with_changes script (take n script.plan.changes)

-- the change, later by this wait
abbrev pub later : ℕ → Change → Change
later wait c = record c { moment = record { 0 = c.moment.0 + wait } }

-- the script where all changes but the first n come later by this wait
abbrev pub with_wait : Script → ℕ → ℕ → Script
with_wait script n wait =
    with_changes script (take n script.plan.changes ++ map (later wait) (drop n script.plan.changes))
