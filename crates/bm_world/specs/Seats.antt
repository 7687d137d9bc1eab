-- How many seats the run of a script has (docs/DEFINITIONS.md).
use Rattle.std.specs.Prelude.{ℕ, zero, suc, ◌+◌, ◌*◌, if◌then◌else◌, length}
use Rattle.bm_table.specs.declared.script.Script.{Script}
use Rattle.bm_table.specs.Planned.{Planned}
use Rattle.bm_table.specs.Tables.{is_known}

-- 1 if the plan knows the server of this number once all its changes are published, else 0
abbrev pub known_once : Planned → ℕ → ℕ
known_once plan n =
    if is_known plan (length plan.changes) (record { 0 = n }) then 1 else 0

-- how many servers with numbers from 1 to n it knows then
unfoldable pub known_up_to : Planned → ℕ → ℕ
known_up_to plan zero = 0
known_up_to plan (suc n) = known_up_to plan n + known_once plan (suc n)

-- a seat for worker 0 and each mux's worker, at each shard of each server that the script knows
abbrev pub seats_of : Script → ℕ
seats_of script =
    known_up_to script.plan 1024 * script.setting.shards * (script.setting.muxes + 1)
