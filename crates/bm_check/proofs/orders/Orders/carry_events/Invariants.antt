use Rattle.std.proofs.Common.{ℕ, ◌-◌, ◌≤◌}
use Rattle.std.specs.Prelude.{reverse, take}
use Rattle.bm_check.specs.Inside.Orders.{Opens, carried}
use Rattle.bm_check.specs.declared.orders.Order.{Order}
use Rattle.bm_check.proofs.orders.Orders.carry_events.Given as goal

abbrev pub invariant-loop-event : goal.invariant-loop-event
invariant-loop-event l =
    (f : Order → ℕ) → Opens f l.initial.self
    → ((q : Order) → carried (reverse (take l.event-index l.events)) q ≤ f q)
    × Opens (λ q. f q - carried (reverse (take l.event-index l.events)) q) l.self
