use Rattle.std.proofs.Common.{◌≡◌, ◌<◌, ◌∷◌, ◌++◌, [], None, Some, length, arith, subst, sym, ◌∙◌}
use Rattle.std.specs.Prelude.{IfSome}
use Rattle.bm_check.proofs.Reports.{closing_or_bad, few_events, more_event, too_late}
use Rattle.bm_check.specs.Lines.{AreLinesOf, IsLineOf}
use Rattle.bm_check.proofs.lines.take_line.Goals as goal

pub returns-then-len-number : goal.returns-then-len-number
returns-then-len-number c done taken =
    let is : IsLineOf c.in-Some.event c.args.line.now =
    subst (λ o. IfSome o (λ e. IsLineOf e c.args.line.now)) c.in-Some.is c.in_ok-event.ensures.right
    in let count = c.len.ensures
    in let below = c.if-len-number.true
    in let all = taken.1
    in let fewer : length c.args.events.now.items < length done = omega (arith, count, below, all)
    in λ good. too_late c.args.events.now.items done good.0 c.in-Some.event c.args.line.now taken.0 fewer is good.1

pub returns-in_ok-push-in-Some : goal.returns-in_ok-push-in-Some
returns-in_ok-push-in-Some c done taken =
    let is : IsLineOf c.in-Some.event c.args.line.now =
    subst (λ o. IfSome o (λ e. IsLineOf e c.args.line.now)) c.in-Some.is c.in_ok-event.ensures.right
    in let count = c.len.ensures
    in let above = c.if-len-number.false
    in let all = taken.1
    in let few = few_events c.args.events.now.items done taken.0
    in let same : length c.args.events.now.items ≡ length done = omega (arith, count, above, all, few)
    in subst (λ events. AreLinesOf events (done ++ c.args.line.now ∷ [])) (sym c.in_ok-push-in-Some.ensures.items)
    (more_event c.args.events.now.items done c.in-Some.event c.args.line.now taken.0 same is)

pub returns-in-None : goal.returns-in-None
returns-in-None c done taken =
    closing_or_bad c.is_closing.result c.args.events.now.items done c.args.line.now c.is_closing.ensures
    (λ e is. let bad : None ≡ Some e = sym c.in-None.is ∙ c.in_ok-event.ensures.found e is in absurd (cc)) taken.0
