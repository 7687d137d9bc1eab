-- Every run of the load has its totals.
use Rattle.std.proofs.Common.{ℕ, ◌≤◌, List, reverse, sym, ap, ◌∙◌, subst}
use Rattle.bm_base.specs.declared.fate.Fate.{Fate}
use Rattle.bm_core.specs.Accounts.{IsAccountOf}
use Rattle.bm_core.specs.declared.events.Event.{Event}
use Rattle.bm_core.specs.declared.events.History.{History}
use Rattle.bm_core.specs.declared.events.Stage.{Stage}
use Rattle.bm_core.specs.Causes.{is_process}
use Rattle.bm_core.specs.Past.{is_accept}
use Rattle.bm_core.specs.Rules.{RouteBy, RuleBy, setting_fate, setting_mux}
use Rattle.bm_load.specs.Loaded.{IsLoadTotals, IsRunOfLoad}
use Rattle.bm_load.proofs.Likeness.{load_like}
use Rattle.bm_load.proofs.Once.{once}
use Rattle.bm_load.proofs.Serving.{well_served}
use Rattle.bm_load.proofs.Shape.{AreOnce, AreWellServed, IsLoadLike, IsRunLike}
use Rattle.bm_load.proofs.Sorting.{HasCounts, counted}
use Rattle.bm_load.proofs.Turning.{count_turned}
use Rattle.bm_table.specs.declared.setting.Setting.{Setting}
use Rattle.bm_trace.specs.Totals.{arrives as comes, is_drop, is_lost, is_reset, totals_of}

abbrev HasAccount : Stage → List Fate → List Event → Setting → Type 0
HasAccount stage fates all setting =
    IsAccountOf (RouteBy (setting_mux setting)) (RuleBy (setting_fate setting)) stage fates all

pub run_like : (n : ℕ) → 1 ≤ n → n ≤ 20000 → (h : History) → (is : IsRunOfLoad n h)
    → IsRunLike h.stage n is.made.fates (reverse h.events)
run_like n some few h is = record {
  like = subst (λ (stage : Stage). IsLoadLike stage n) (sym is.about) (load_like n some few);
  run = is.made.run.run;
  steps = is.made.follows.0;
  account = subst (HasAccount h.stage is.made.fates (reverse h.events))
      (sym (ap (λ (stage : Stage). stage.script.setting) is.about)) is.made.account;
}

pub totals : (n : ℕ) (h : History) (fates : List Fate) → IsRunLike h.stage n fates (reverse h.events)
    → AreOnce h.stage n (reverse h.events) → AreWellServed n (reverse h.events)
    → IsLoadTotals n (totals_of h)
totals n h fates run times served =
    let sums : HasCounts n (reverse h.events) = counted h.stage n (reverse h.events) run.like run.run times served
    in record {
      packets = run.like.records;
      accepted = count_turned (λ e. comes is_accept e.what) h.events ∙ sums.accepted;
      processed = count_turned (λ e. comes is_process e.what) h.events ∙ sums.processed;
      reset = count_turned (λ e. comes is_reset e.what) h.events ∙ sums.reset;
      dropped = count_turned (λ e. comes is_drop e.what) h.events ∙ sums.dropped;
      lost = count_turned (λ e. is_lost e.what) h.events ∙ sums.lost;
    }

pub loaded : (n : ℕ) → 1 ≤ n → n ≤ 20000 → (h : History) → IsRunOfLoad n h → IsLoadTotals n (totals_of h)
loaded n some few h is =
    let run : IsRunLike h.stage n is.made.fates (reverse h.events) = run_like n some few h is
    in let times : AreOnce h.stage n (reverse h.events) = once run
    in totals n h is.made.fates run times (well_served is.made.run.sound run times)
