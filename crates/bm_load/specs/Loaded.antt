-- What every run of the load in threads comes to (docs/DEFINITIONS.md).
use Rattle.std.specs.Prelude.{◌≡◌, ℕ, ◌*◌, List, ◌++◌, codes, decimal}
use Rattle.bm_core.specs.declared.events.History.{History}
use Rattle.bm_core.specs.Rules.{RouteBy, RuleBy, setting_fate, setting_mux}
use Rattle.bm_core.specs.Threads.{IsThreadedRun}
use Rattle.bm_load.specs.Load.{load_of, load_setting}
use Rattle.bm_trace.specs.declared.sums.Totals.{Totals}

-- a run, in threads, of the load of n connections
pub record IsRunOfLoad (n : ℕ) (h : History) : Type 0 where
  pub about : h.stage ≡ load_of n
  pub made : IsThreadedRun (RouteBy (setting_mux load_setting))
      (RuleBy (setting_fate load_setting)) h

-- n packets are accepted, 3n are processed, and none is reset, dropped or lost
pub record IsLoadTotals (n : ℕ) (t : Totals) : Type 0 where
  pub packets : t.packets ≡ 4 * n
  pub accepted : t.accepted ≡ n
  pub processed : t.processed ≡ 3 * n
  pub reset : t.reset ≡ 0
  pub dropped : t.dropped ≡ 0
  pub lost : t.lost ≡ 0

-- the line of a load of n connections whose history has these totals
abbrev pub summary : ℕ → Totals → List ℕ
summary n t =
    codes "load " ++ decimal n ++ codes " packets " ++ decimal t.packets ++ codes " accepted "
    ++ decimal t.accepted ++ codes " processed " ++ decimal t.processed ++ codes " reset "
    ++ decimal t.reset ++ codes " dropped " ++ decimal t.dropped ++ codes " lost "
    ++ decimal t.lost ++ codes "\n"
