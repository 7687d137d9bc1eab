-- The history of a replay, whole (docs/DEFINITIONS.md).
use Rattle.std.specs.Prelude.{ℕ, List, reverse}
use Rattle.bm_base.specs.declared.flow.Flow.{Flow}
use Rattle.bm_base.specs.declared.fate.Fate.{Fate}
use Rattle.bm_core.specs.declared.events.Event.{Event}
use Rattle.bm_core.specs.declared.events.History.{History}
use Rattle.bm_core.specs.declared.events.Stage.{Stage}
use Rattle.bm_core.specs.Accounts.{Routes, Rules, IsRouted, IsAccountOf}
use Rattle.bm_core.specs.Runs.{IsStep, IsRun}
use Rattle.bm_core.specs.Schedule.{IsNextBy, Follows, IsOver}
use Rattle.bm_core.specs.Rules.{RouteBy}

-- the event may come next after these in a replay, if the route answers these muxes
pub record IsNextIn (mux : ℕ → Flow → ℕ) (fates : List Fate) (stage : Stage) (past : List Event)
    (e : Event) : Type 0 where
  pub step : IsStep stage past e
  pub routed : IsRouted (RouteBy mux) stage e.what
  pub next : IsNextBy fates stage past e

-- the whole run of a replay of its stage, with these answers of the route and of the impairment
-- rule
pub record IsReplay (R : Routes) (F : Rules) (h : History) : Type 0 where
  pub run : IsRun h
  -- one fate for each event, the newest first
  pub fates : List Fate
  pub follows : Follows fates h.stage (reverse h.events)
  pub over : IsOver fates h.stage (reverse h.events)
  pub account : IsAccountOf R F h.stage fates (reverse h.events)
