use Rattle.std.proofs.Common.{◌≡◌, ◌-◌, ◌≤◌, get_or, subst, sym, true, false, rules}
use Rattle.std.specs.Prelude.{reverse, take}
use Rattle.bm_state.proofs.Newest.{reverse_take}
use Rattle.bm_check.proofs.Ordering.{carried_next, carried_over, no_event}
use Rattle.bm_check.specs.Inside.Orders.{Opens, carried}
use Rattle.bm_check.specs.declared.orders.Order.{Order}
use Rattle.bm_check.proofs.orders.Orders.carry_events.Goals as goal

pub loop-event-preserved : goal.loop-event-preserved
loop-event-preserved c f opens =
    let events = c.args.events.now
    in let i = c.loop-event.event-index
    in let past = reverse (take i events)
    in let kept = c.loop-event.invariant f opens
    in let is : c.in_ok-carry_event.field-0 ≡ true = search rules
    in subst (λ now. ((q : Order) → carried now q ≤ f q) × Opens (λ q. f q - carried now q) c.carry_event.new.self)
    (sym (reverse_take events i no_event c.loop-event-test.true))
    (carried_next c.in_ok-carry_event.field-0 (get_or events i no_event) past f c.carry_event.new.self _ is kept.0
    (c.in_ok-carry_event.ensures (λ q. f q - carried past q) kept.1))

pub returns-then-not-branch : goal.returns-then-not-branch
returns-then-not-branch c f opens =
    let events = c.args.events.now
    in let i = c.loop-event.event-index
    in let past = reverse (take i events)
    in let kept = c.loop-event.invariant f opens
    in let is : c.in_ok-carry_event.field-0 ≡ false = search rules
    in carried_over c.in_ok-carry_event.field-0 events i (get_or events i no_event) f _ is
    (reverse_take events i no_event c.loop-event-test.true)
    (c.in_ok-carry_event.ensures (λ q. f q - carried past q) kept.1)
