-- In a run of a load each packet is steered once, each copy comes once, and clocks stay small.
use Rattle.std.proofs.Common.{◌≡◌, ℕ, ◌+◌, ◌≤◌, true, List, length, ◌∙◌, arith}
use Rattle.std.specs.Prelude.{is_some}
use Rattle.bm_base.specs.declared.fate.Fate.{Fate}
use Rattle.bm_base.specs.declared.label.Hop.TheVariants.{Direct, Chained, Twice}
use Rattle.bm_core.specs.Accounts.{arrives, counts, steers_packet}
use Rattle.bm_core.specs.declared.events.Event.{Event}
use Rattle.bm_core.specs.declared.events.Stage.{Stage}
use Rattle.bm_core.specs.Past.{segment_of, sends}
use Rattle.bm_core.specs.Runs.{AtEach}
use Rattle.bm_core.proofs.Ends.{direct_steers}
use Rattle.bm_load.proofs.Clocks.{clocks_by, each_by}
use Rattle.bm_load.proofs.Copies.{AreSingle, are_quiet, are_single, sent_once}
use Rattle.bm_load.proofs.Lengths.{chained_few, events_few, once_most, twice_few}
use Rattle.bm_load.proofs.Shape.{AreOnce, IsRunLike, is_quiet, once as one_if}
use Rattle.bm_load.proofs.Summing.{counts_same}

single_in : {stage : Stage} {n : ℕ} {fates : List Fate} {all : List Event} → IsRunLike stage n fates all
    → AreSingle fates all
single_in {stage} {n} {fates} {all} run = are_single stage n run.like fates all run.account.answered

quiet_in : {stage : Stage} {n : ℕ} {fates : List Fate} {all : List Event} → IsRunLike stage n fates all
    → AtEach (λ past e. is_quiet e.what ≡ true) all
quiet_in {stage} {n} {fates} {all} run =
    are_quiet stage n run.like fates all run.run run.steps (single_in run) run.account.lost

direct_in : {stage : Stage} {n : ℕ} {fates : List Fate} {all : List Event} → IsRunLike stage n fates all → (k : ℕ)
    → counts all (λ what. arrives what k Direct) ≡ one_if (is_some (segment_of stage k))
direct_in {stage} {n} {fates} {all} run k =
    run.account.arrived k Direct ∙ sent_once fates all k Direct (single_in run)
    ∙ counts_same all (λ what. sends what k Direct) (λ what. steers_packet what k)
    (λ what. direct_steers what k)
    ∙ run.account.steered k

chained_in : {stage : Stage} {n : ℕ} {fates : List Fate} {all : List Event} → IsRunLike stage n fates all → (k : ℕ)
    → counts all (λ what. arrives what k Chained) ≡ counts all (λ what. sends what k Chained)
chained_in {stage} {n} {fates} {all} run k =
    run.account.arrived k Chained ∙ sent_once fates all k Chained (single_in run)

twice_in : {stage : Stage} {n : ℕ} {fates : List Fate} {all : List Event} → IsRunLike stage n fates all → (k : ℕ)
    → counts all (λ what. arrives what k Twice) ≡ counts all (λ what. sends what k Twice)
twice_in {stage} {n} {fates} {all} run k =
    run.account.arrived k Twice ∙ sent_once fates all k Twice (single_in run)

few_in : {stage : Stage} {n : ℕ} {fates : List Fate} {all : List Event} → IsRunLike stage n fates all
    → length all ≤ 1000000
few_in {stage} {n} {fates} {all} run =
    events_few fates stage n run.like all run.run run.steps (quiet_in run)
    (λ k. let a = run.account.steered k in let b = once_most (is_some (segment_of stage k)) in omega arith)
    (λ k. let a = direct_in run k in let b = once_most (is_some (segment_of stage k)) in omega arith)
    (λ k.
    let a = direct_in run k
    in let b = once_most (is_some (segment_of stage k))
    in let c = chained_in run k
    in let d = chained_few all k
    in omega arith)
    (λ k.
    let a = direct_in run k
    in let b = once_most (is_some (segment_of stage k))
    in let c = chained_in run k
    in let d = chained_few all k
    in let e = twice_in run k
    in let f = twice_few all k
    in omega arith)

pub once : {stage : Stage} {n : ℕ} {fates : List Fate} {all : List Event} → IsRunLike stage n fates all
    → AreOnce stage n all
once {stage} {n} {fates} {all} run = record {
  steered = run.account.steered;
  direct = direct_in run;
  chained = chained_in run;
  twice = twice_in run;
  quiet = quiet_in run;
  clocks = each_by 81000000 (80000000 + length all) all (let h = few_in run in omega arith)
      (clocks_by stage n run.like fates all run.steps (single_in run) (quiet_in run));
}
