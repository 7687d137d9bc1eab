use Rattle.std.proofs.Common.{◌*◌, ◌^◌, List, [], ◌∷◌, sym, subst, ◌∙◌}
use Rattle.std.specs.Prelude.{All}
use Rattle.bm_server.specs.Servings.{Serving}
use Rattle.bm_worker.specs.declared.worker.MuxWorker.{MuxWorker}
use Rattle.bm_worker.specs.WorkerNotes.{AreServersOf}
use Rattle.bm_worker.specs.Phases.{CanWork}
use Rattle.bm_worker.proofs.SmallRuns.{one_server_made}
use Rattle.bm_thread_tests.proofs.worker.carry_beside_a_board.Goals as goal

pub carry-requires-clause-servers_are : goal.carry-requires-clause-servers_are
carry-requires-clause-servers_are g c κs within =
    subst (λ (l : List Serving). AreServersOf c.args.stage.now l) (sym (c.deref.ensures.value ∙ c.in_ok-servers.ensures))
    (one_server_made c.args.stage.now c.in_ok-server.server 4096 (240 * 10 ^ 9) 3 c.requires.plan
    c.in_ok-server.ensures.server c.in_ok-server.ensures.shards c.requires.setting)

pub carry-requires-clause-can : goal.carry-requires-clause-can
carry-requires-clause-can g c κs within routes =
    subst (λ (l : List Serving). All (CanWork c.args.stage.now l routes
    (record { from = 0; until = 2; after = record { 0 = 0 } })) c.deref_mut.result.now)
    (sym (c.deref.ensures.value ∙ c.in_ok-servers.ensures))
    (subst (λ (l : List MuxWorker). All (CanWork c.args.stage.now (c.in_ok-server.server ∷ []) routes
    (record { from = 0; until = 2; after = record { 0 = 0 } })) l) (sym c.deref_mut.ensures.value)
    (c.in_ok-workers.ensures routes))
