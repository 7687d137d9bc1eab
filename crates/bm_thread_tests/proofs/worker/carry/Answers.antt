use Rattle.std.proofs.Common.{sym, subst}
use Rattle.std.specs.Prelude.{All}
use Rattle.bm_worker.specs.Environments.{Environment}
use Rattle.bm_worker.specs.Phases.{CanWork}
use Rattle.bm_thread_tests.proofs.worker.carry.Goals as goal

pub work_all-requires-clause-can : goal.work_all-requires-clause-can
work_all-requires-clause-can g c κs within =
    subst (λ (x : Environment _). All (CanWork x.stage x.servers x.routes
    (record { from = 0; until = 2; after = record { 0 = 0 } })) c.args.workers.now) (sym c.new-shared.ensures)
    (c.requires.can _)
