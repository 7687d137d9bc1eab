use Rattle.std.specs.Prelude.{reverse, take}
use Rattle.bm_core.specs.Accounts.{count_of}
use Rattle.bm_check.specs.Inside.Orders.{Opens, asks}
use Rattle.bm_check.proofs.orders.Orders.of_stage.Given as goal

abbrev pub invariant-loop-command : goal.invariant-loop-command
invariant-loop-command l =
    Opens (λ q. count_of (λ c. asks l.shards c q) (reverse (take l.command-index l.commands))) l.orders
