use Rattle.std.proofs.Common.{ℕ, ◌<◌, ◌+◌, ◌^◌}
use Rattle.std.specs.Prelude.{if◌then◌else◌}
use Rattle.bm_check.specs.Inside.Orders.{Opens, asks_below}
use Rattle.bm_check.specs.declared.orders.Order.{Order}
use Rattle.bm_check.proofs.orders.Orders.ask_shards.Given as goal

abbrev pub invariant-loop-shard : goal.invariant-loop-shard
invariant-loop-shard l =
    (f : Order → ℕ) → ((q : Order) → f q < 2 ^ 62) → Opens f l.initial.self
    → Opens (λ q. (if asks_below l.server.0 l.shard q then 1 else 0) + f q) l.self
