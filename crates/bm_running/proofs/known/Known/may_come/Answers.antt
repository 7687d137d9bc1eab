use Rattle.std.proofs.Common.{subst, sym}
use Rattle.std.specs.Prelude.{IfOk}
use Rattle.std.specs.Bool.{Decides}
use Rattle.bm_core.specs.declared.events.What.{What}
use Rattle.bm_core.specs.Runs.{MayCome}
use Rattle.bm_running.proofs.known.Known.may_come.Goals as goal

pub returns-in-Publish-clause-decides : goal.returns-in-Publish-clause-decides
returns-in-Publish-clause-decides c past knows =
    subst (λ (w : What). Decides c.may_publish.result
    (MayCome c.args.stage.now past c.args.event.now.clock.0 w)) (sym c.in-Publish.is)
    (c.may_publish.ensures past c.args.event.now.clock.0 knows)

pub returns-in-Switch-clause-decides : goal.returns-in-Switch-clause-decides
returns-in-Switch-clause-decides c past knows =
    subst (λ (w : What). Decides c.may_switch.result
    (MayCome c.args.stage.now past c.args.event.now.clock.0 w)) (sym c.in-Switch.is)
    (c.may_switch.ensures past c.args.event.now.clock.0 knows)

pub returns-in-Steer-clause-decides : goal.returns-in-Steer-clause-decides
returns-in-Steer-clause-decides c past knows =
    subst (λ (w : What). Decides c.may_steer.result
    (MayCome c.args.stage.now past c.args.event.now.clock.0 w)) (sym c.in-Steer.is)
    (c.may_steer.ensures past c.args.event.now.clock.0 knows)

pub returns-in-Arrive-clause-decides : goal.returns-in-Arrive-clause-decides
returns-in-Arrive-clause-decides c past knows =
    subst (λ (w : What). IfOk c.may_arrive.result (λ may. Decides may
    (MayCome c.args.stage.now past c.args.event.now.clock.0 w))) (sym c.in-Arrive.is)
    (c.may_arrive.ensures.decides past knows)

pub returns-in-Retire-clause-decides : goal.returns-in-Retire-clause-decides
returns-in-Retire-clause-decides c past knows =
    subst (λ (w : What). IfOk c.may_retire.result (λ may. Decides may
    (MayCome c.args.stage.now past c.args.event.now.clock.0 w))) (sym c.in-Retire.is)
    (c.may_retire.ensures.decides past knows)

pub returns-in-Close-clause-decides : goal.returns-in-Close-clause-decides
returns-in-Close-clause-decides c past knows =
    subst (λ (w : What). IfOk c.may_close.result (λ may. Decides may
    (MayCome c.args.stage.now past c.args.event.now.clock.0 w))) (sym c.in-Close.is)
    (c.may_close.ensures.decides past knows)
