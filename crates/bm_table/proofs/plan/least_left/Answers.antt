use Rattle.std.proofs.Common.{ap, ap₂, sym, ◌∙◌}
use Rattle.std.proofs.lemmas.List.{take_all}
use Rattle.bm_table.specs.declared.plan.Step.{Step}
use Rattle.bm_table.specs.Inside.Leaves.{lesser_of, step_left}
use Rattle.bm_table.proofs.LeafLemmas.{least_since-more}
use Rattle.bm_table.proofs.plan.least_left.Goals as goal

pub loop-step-preserved : goal.loop-step-preserved
loop-step-preserved c =
    c.lesser-least.ensures
    ∙ ap₂ lesser_of c.loop-step.invariant
    (c.left_since.ensures ∙ ap (λ (x : Step). step_left x c.args.s c.args.since.0) c.step-item.is)
    ∙ sym (least_since-more c.args.steps.now c.loop-step.step-index c.step-item.result c.args.s c.args.since.0
    c.loop-step-test.true)

pub returns : goal.returns
returns c = rw (take_all c.loop-step.step-index c.args.steps.now c.loop-step-test.false) at c.loop-step.invariant
