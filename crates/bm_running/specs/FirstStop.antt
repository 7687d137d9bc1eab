-- What following events finds: the first that may not come, or a run.
use Rattle.std.specs.Prelude.{ℕ, ◌<◌, List, reverse, take}
use Rattle.bm_core.specs.declared.events.Event.{Event}
use Rattle.bm_core.specs.declared.events.Stage.{Stage}
use Rattle.bm_core.specs.Runs.{Run}
use Rattle.bm_state.specs.Losses.{KeepsLosses}
use Rattle.bm_state.specs.Tallies.{KeepsTallies}
use Rattle.bm_running.specs.declared.running.Followed.{Followed}
use Rattle.bm_running.specs.declared.running.Followed.TheVariants.{Runs, Stops}

-- it holds of this number and of no lower one
abbrev pub IsLeast : (ℕ → Type 0) → ℕ → Type 0
IsLeast P n = P n × ((m : ℕ) → m < n → P m → ⊥)

-- the first n events aren't a run
abbrev pub IsNoRunTo : Stage → List Event → ℕ → Type 0
IsNoRunTo stage events n = Run stage (reverse (take n events)) → ⊥

-- the number of the first event that may not come, or what is known of a run's copies
abbrev pub IsFollowed : Stage → List Event → Followed → Type 0
IsFollowed stage events (Stops n) = IsLeast (IsNoRunTo stage events) n
IsFollowed stage events (Runs tallies losses) =
    Run stage (reverse events) × KeepsTallies (reverse events) tallies × KeepsLosses (reverse events) losses
