use Rattle.std.proofs.Common.{◌+◌}
use Rattle.std.specs.Prelude.{if◌then◌else◌}
use Rattle.bm_check.proofs.Ordering.{below_more, none_below, opens_same, small_sum}
use Rattle.bm_check.specs.Inside.Orders.{asks_below}
use Rattle.bm_check.specs.declared.orders.Order.TheVariants.{Retire}
use Rattle.bm_check.proofs.orders.Orders.ask_shards.Goals as goal

pub loop-shard-init : goal.loop-shard-init
loop-shard-init c f low opens =
    opens_same f (λ q. (if asks_below c.args.server.0 0 q then 1 else 0) + f q) c.args.self.now
    (λ q. none_below c.args.server.0 q (f q)) opens

pub loop-shard-preserved : goal.loop-shard-preserved
loop-shard-preserved c f low opens =
    let s = c.args.server.0
    in let n = c.loop-shard.shard
    in opens_same _ (λ q. (if asks_below s (n + 1) q then 1 else 0) + f q) c.ask.new.self (λ q. below_more s n q (f q))
    (c.in_ok-ask.ensures (λ q. (if asks_below s n q then 1 else 0) + f q)
    (small_sum (asks_below s n (Retire s n)) (f (Retire s n)) (low (Retire s n))) (c.loop-shard.invariant f low opens))
