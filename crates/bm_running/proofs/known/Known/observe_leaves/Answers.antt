use Rattle.std.proofs.Common.{◌≡◌, ◌<◌, suc, ap, arith, subst, sym, ◌∙◌}
use Rattle.std.specs.Prelude.{◌≤◌, length}
use Rattle.bm_core.specs.declared.events.What.{What}
use Rattle.bm_core.specs.Past.{newest, published_by}
use Rattle.bm_core.specs.Runs.{MayCome}
use Rattle.bm_running.specs.Inside.Leaves.{KeepsLeaves}
use Rattle.bm_running.proofs.known.Known.observe_leaves.Goals as goal

pub returns-in_ok-observe-in-Publish-clause-keeps : goal.returns-in_ok-observe-in-Publish-clause-keeps
returns-in_ok-observe-in-Publish-clause-keeps c past keeps may_come =
    let plan = c.args.stage.now.script.plan
    in let before = c.saturating_sub-before.result
    in let may : (c.in-Publish.version.0 ≡ suc (newest past)) × (c.in-Publish.version.0 ≤ length plan.changes) =
    subst (λ (w : What). MayCome c.args.stage.now past c.args.event.now.clock.0 w) c.in-Publish.is may_come
    in let one = may.0
    in let few = may.1
    in let kept : KeepsLeaves plan before c.args.self.now.leaves =
    subst (λ n. KeepsLeaves plan n c.args.self.now.leaves) (omega (arith, one, c.saturating_sub-before.ensures)) keeps
    in let within : before < length plan.changes = omega (arith, one, few, c.saturating_sub-before.ensures)
    in subst (λ n. KeepsLeaves plan n c.observe.new.self)
    (omega (arith, one, c.saturating_sub-before.ensures)
    ∙ sym (ap (λ (w : What). published_by w (newest past)) c.in-Publish.is))
    (c.in_ok-observe-in-Publish.ensures within kept)
