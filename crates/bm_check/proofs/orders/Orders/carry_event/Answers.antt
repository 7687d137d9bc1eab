use Rattle.std.proofs.Common.{sym, ◌∙◌}
use Rattle.bm_check.proofs.Ordering.{event_carried}
use Rattle.bm_check.proofs.orders.Orders.carry_event.Goals as goal

pub returns-in_ok-carried-in-Some : goal.returns-in_ok-carried-in-Some
returns-in_ok-carried-in-Some c f opens =
    event_carried c.in_ok-carried-in-Some.carried c.args.what c.in-Some.order f c.carry.new.self
    (sym c.order_of.ensures ∙ c.in-Some.is) (c.in_ok-carried-in-Some.ensures f opens)
