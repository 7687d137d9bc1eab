use Rattle.std.proofs.Common.{◌≤◌, ap, arith}
use Rattle.bm_pcapng.specs.declared.place.Place.{Place}
use Rattle.std.proofs.lemmas.Result.{err_from_is_err_and}
use Rattle.bm_pcapng.proofs.Starts.{refused_first, refused_order}
use Rattle.bm_pcapng.proofs.reader.open.Goals as goal

pub returns-in_err-order-clause-opens : goal.returns-in_err-order-clause-opens
returns-in_err-order-clause-opens g c =
    let p = err_from_is_err_and c.from_residual.result c.from_residual.ensures.1 in
    rw (p.1, p.2)
    (refused_order _ c.in_err-order.field-0.0 c.in_err-order.ensures.others c.in_err-order.ensures.gives)

pub returns-in_err-_first-clause-opens : goal.returns-in_err-_first-clause-opens
returns-in_err-_first-clause-opens g c =
    let p = err_from_is_err_and c.from_residual-in_err-_first.result c.from_residual-in_err-_first.ensures.1 in
    rw (p.1, p.2)
    (refused_first _ _ c.in_ok-order.order c.in_ok-section.section.order c.in_ok-section.section.interfaces.items
    c.first.result c.in_err-_first.field-0.0 c.in_ok-order.ensures.gives c.in_ok-order.ensures.keeps
    c.in_ok-section.ensures.order c.in_ok-section.ensures.none c.first.ensures c.in_err-_first.ensures.gives)

pub returns-in_err-_first-clause-others : goal.returns-in_err-_first-clause-others
returns-in_err-_first-clause-others g c =
    let p = err_from_is_err_and c.from_residual-in_err-_first.result c.from_residual-in_err-_first.ensures.1 in
    let roomy : 16777216 ≤ c.first.result.room =
    omega (arith, ap (λ (p : Place). p.room) c.first.ensures) in
    rw (p.1, p.2) (c.in_err-_first.ensures.start c.in_ok-order.ensures.section roomy)
