-- A worker after its part of a phase.
use Rattle.std.proofs.Common.{◌≡◌, List, length, Option, Some, None, Result, Ok, Err, refl, sym, ap, ◌∙◌, subst}
use Rattle.std.proofs.Common.{arith}
use Rattle.std.proofs.Common.{true, false}
use Rattle.std.specs.Prelude.{is_some}
use Rattle.std.specs.Result.{result_err}
use Rattle.bm_base.specs.declared.ids.MuxId.{MuxId}
use Rattle.bm_core.specs.declared.events.Stage.{Stage}
use Rattle.bm_core.specs.Accounts.{Rules}
use Rattle.bm_publish.specs.Posts.{Continues, Posted}
use Rattle.bm_mux.specs.Muxes.{MuxState}
use Rattle.bm_server.specs.Servings.{Serving}
use Rattle.bm_worker.specs.declared.span.Span.{Span}
use Rattle.bm_worker.specs.declared.stop.Stop.{Stop}
use Rattle.bm_worker.specs.declared.worker.MuxWorker.{MuxWorker}
use Rattle.bm_worker.specs.Inside.Batches.{EndsAs}
use Rattle.bm_worker.specs.Phases.{HasEnded, HasGrown, HasWorked, Task, task_of}
use Rattle.bm_worker.specs.Callers.{CallerState}
use Rattle.bm_worker.proofs.Delivering.{kept_steps}

pub not_some : {X : Type 0} (o : Option X) → is_some o ≡ false → o ≡ None
not_some None is = refl
not_some (Some x) is = absurd (let bad : true ≡ false = is in cc)

-- the same worker but for the posts that it knows and why it gave up
ended_as : (F : Rules) (stage : Stage) (servers : List Serving) (task : Task) (now next : MuxWorker)
    (stop : Option Stop) → next.mux ≡ now.mux → next.caller ≡ now.caller → HasEnded F stage servers task now stop
    → HasEnded F stage servers task next stop
ended_as F stage servers task now next None mux caller is = (
  is.0,
  record {
    kept = kept_steps F stage servers task now next is.0 mux caller is.1.kept;
    carrier = is.1.carrier;
    looked = is.1.looked;
    learned = subst (λ (x : MuxState). Continues task.posted x.seen) (sym mux) is.1.learned;
    steered = is.1.steered;
    few = is.1.few;
  },
)
ended_as F stage servers task now next (Some stop) mux caller is =
    (is.0, kept_steps F stage servers task now next is.0 mux caller is.1, is.2, is.3)

ended_by : (F : Rules) (stage : Stage) (servers : List Serving) (task : Task) (now : MuxWorker)
    (r : Result (Unit {0}) Stop) → EndsAs F stage servers task now r
    → HasEnded F stage servers task now (result_err r)
ended_by F stage servers task now (Ok u) is = is
ended_by F stage servers task now (Err stop) is = is

-- it hadn't given up
pub has_worked : (F : Rules) (stage : Stage) (servers : List Serving) (routes : List (Option MuxId)) (span : Span)
    (old now next : MuxWorker) (r : Result (Unit {0}) Stop) → old.stop ≡ None → next.stop ≡ result_err r
    → next.mux ≡ now.mux → next.caller ≡ now.caller → next.steps ≡ now.steps
    → ((posted : Posted) → old.posted ≡ Some posted → HasGrown (task_of routes span posted old) now)
    → ((posted : Posted) → old.posted ≡ Some posted → EndsAs F stage servers (task_of routes span posted old) now r)
    → HasWorked F stage servers routes span old next
has_worked F stage servers routes span old now next r none stop mux caller steps grown ended = record {
  idle = λ why is. absurd (let bad : None ≡ Some why = sym none ∙ is in cc);
  ended = λ posted no is. subst (λ (s : Option Stop). HasEnded F stage servers (task_of routes span posted old) next s)
      (sym stop)
      (ended_as F stage servers (task_of routes span posted old) now next (result_err r) mux caller
      (ended_by F stage servers (task_of routes span posted old) now r (ended posted is)));
  grown = λ posted no is. record {
    tries = let a = (grown posted is).tries in let e = ap (λ (p : CallerState). p.tries) caller in omega (arith, a, e);
    steps = let a = (grown posted is).steps in omega (arith, a, steps);
    log = let a = (grown posted is).log in
        let e : length next.mux.log ≡ length now.mux.log = ap (λ (x : MuxState). length x.log) mux in
        omega (arith, a, e);
  };
}
