use Rattle.std.proofs.Common.{arith}
use Rattle.bm_lead.proofs.Going.{led_more}
use Rattle.bm_lead.proofs.Stopping.{unless_err}
use Rattle.bm_lead.proofs.lead.lead_phase.Goals as goal

pub loop-leader-preserved : goal.loop-leader-preserved
loop-leader-preserved g c =
    let next = c.in_ok-lead_next.ensures.next in
    let low = c.loop-leader.invariant.0 in
    let test = c.loop-leader-test.true in (
      omega (arith, next, low),
      omega (arith, next, test),
      led_more c.args.shared.now.stage c.args.shared.now.servers c.args.poster.now c.loop-leader.poster c.lead_next.new.poster
          c.args.leader.now
          c.loop-leader.leader c.lead_next.new.leader c.loop-leader.invariant.2 c.in_ok-lead_next.ensures.led,
    )

pub returns-in_err-lead_next-clause-led : goal.returns-in_err-lead_next-clause-led
returns-in_err-lead_next-clause-led g c =
    unless_err c.from_residual.result c.in_err-lead_next.field-0.0 _ _ c.from_residual.ensures.1
    c.in_err-lead_next.ensures.led
    (led_more c.args.shared.now.stage c.args.shared.now.servers c.args.poster.now c.loop-leader.poster c.lead_next.new.poster
    c.args.leader.now
    c.loop-leader.leader c.lead_next.new.leader c.loop-leader.invariant.2)
