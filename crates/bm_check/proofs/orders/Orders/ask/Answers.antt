use Rattle.std.proofs.Common.{◌≡◌, Some, arith, subst, suc}
use Rattle.std.specs.Prelude.{if◌then◌else◌}
use Rattle.bm_check.proofs.Ordering.{one_more}
use Rattle.bm_check.specs.Inside.Orders.{open_in, same_order}
use Rattle.bm_check.specs.declared.orders.Order.{Order}
use Rattle.bm_check.proofs.orders.Orders.ask.Goals as goal

pub returns : goal.returns
returns c f low opens =
    let count = c.count-count.ensures f opens
    in let more : c.one_more.result ≡ suc c.count-count.result = c.one_more.ensures (omega (arith, count, low))
    in one_more c.args.order c.args.self.now c.put.new.self c.count-count.result f count opens
    (subst (λ n. (q : Order) → open_in c.put.new.self q
    ≡ (if same_order c.args.order q then Some n else open_in c.args.self.now q)) more c.in_ok-put.ensures)
