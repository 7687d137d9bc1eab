use Rattle.std.proofs.Common.{List, [], ◌∷◌, sym, subst}
use Rattle.std.specs.Prelude.{All}
use Rattle.std.proofs.lemmas.List.Elements.{All-from_recursion}
use Rattle.bm_worker.specs.declared.worker.MuxWorker.{MuxWorker}
use Rattle.bm_worker.specs.Phases.{CanWork}
use Rattle.bm_thread_tests.proofs.worker.make_pair.Goals as goal

pub returns : goal.returns
returns c routes =
    let P : MuxWorker → Type 0 = CanWork c.args.stage.now (c.args.server.now ∷ []) routes
    (record { from = 0; until = 2; after = record { 0 = 0 } }) in
    subst (λ (l : List MuxWorker). All P l) (sym c.in_ok-vec.ensures.items)
    (All-from_recursion P (c.in_ok-first.first ∷ c.in_ok-second.second ∷ [])
    (c.in_ok-first.ensures routes, (c.in_ok-second.ensures routes, tt)))
