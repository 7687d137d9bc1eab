use Rattle.std.proofs.Common.{List, sym, subst}
use Rattle.bm_core.specs.declared.events.Event.{Event}
use Rattle.std.proofs.lemmas.Result.{IfOk-weaker}
use Rattle.bm_merge.specs.Rising.{IsRising}
use Rattle.bm_merge.proofs.Heading.{in_order_rises}
use Rattle.bm_merge.proofs.logs.join_in_order.Goals as goal

pub returns-clause-rising : goal.returns-clause-rising
returns-clause-rising c =
    IfOk-weaker c.in_order.result _ _
    (λ events is. subst (λ (l : List Event). IsRising l) (sym is) (in_order_rises c.in_ok-join.field-0.items))
    c.in_order.ensures
