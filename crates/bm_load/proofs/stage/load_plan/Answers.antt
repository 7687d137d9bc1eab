use Rattle.std.proofs.Common.{ap, ◌∙◌}
use Rattle.bm_controller.specs.Controlled.{Controlled}
use Rattle.bm_load.proofs.Adding.{added, wants_memory}
use Rattle.bm_load.proofs.stage.load_plan.Goals as goal

pub want-requires : goal.want-requires
want-requires c =
    wants_memory c.args.n c.from.result c.in_ok-controller.controller c.in-Err.refusal c.in_ok-controller.ensures
    c.from.ensures c.in-Err.ensures.refused

pub returns-in-Ok-clause-plan : goal.returns-in-Ok-clause-plan
returns-in-Ok-clause-plan c =
    c.into_plan.ensures.plan ∙ (ap (λ (x : Controlled). x.plan) c.in-Ok.ensures.ok
    ∙ added c.args.n c.from.result c.in_ok-controller.controller c.in_ok-controller.ensures c.from.ensures)
