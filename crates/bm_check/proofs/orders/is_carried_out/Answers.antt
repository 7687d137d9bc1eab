use Rattle.std.proofs.Common.{◌≡◌, ◌<◌, ◌≤◌, ◌-◌, length, rules, reverse}
use Rattle.bm_core.specs.Past.{newest}
use Rattle.bm_check.proofs.Ordering.{all_done, not_done}
use Rattle.bm_check.specs.Inside.Orders.{Opens, asked, carried}
use Rattle.bm_check.specs.declared.orders.Order.{Order}
use Rattle.bm_check.proofs.orders.is_carried_out.Goals as goal

pub returns-then-not-branch : goal.returns-then-not-branch
returns-then-not-branch c =
    let all = reverse c.args.events.now
    in let over : (q : Order) × (asked c.args.stage.now q < carried all q) =
    rw c.if-not-branch.true at (c.in_ok-carry_events.ensures (asked c.args.stage.now) c.in_ok-orders.ensures)
    in (λ t. absurd (cc), λ done. absurd (not_done c.args.stage.now all over done))

pub returns : goal.returns
returns c =
    let all = reverse c.args.events.now
    in let changes : newest all ≡ length c.args.stage.now.script.plan.changes = search rules
    in let done : ((q : Order) → carried all q ≤ asked c.args.stage.now q)
    × Opens (λ q. asked c.args.stage.now q - carried all q) c.carry_events.new.self =
    rw c.if-not-branch.false at (c.in_ok-carry_events.ensures (asked c.args.stage.now) c.in_ok-orders.ensures)
    in all_done c.are_done.result c.args.stage.now all changes done.0
    (c.are_done.ensures (λ q. asked c.args.stage.now q - carried all q) done.1)
