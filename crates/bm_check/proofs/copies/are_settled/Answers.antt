use Rattle.std.proofs.Common.{refl, subst}
use Rattle.std.specs.Prelude.{All}
use Rattle.bm_core.specs.declared.events.Event.{Event}
use Rattle.bm_check.proofs.Copying.{all_more}
use Rattle.bm_check.proofs.Ordering.{take_all}
use Rattle.bm_check.specs.Inside.Copies.{IsSettled}
use Rattle.bm_check.proofs.copies.are_settled.Goals as goal

pub loop-event-preserved : goal.loop-event-preserved
loop-event-preserved g c all fates few kept lost_kept one fated =
    let sent = c.is_sending_settled.ensures all fates few kept lost_kept one fated
    in let lost = c.is_loss_settled.ensures all fates lost_kept one fated
    in all_more (λ (e : Event). IsSettled fates all e) c.args.events.now c.loop-event.event-index c.loop-event-test.true
    (c.loop-event.invariant all fates few kept lost_kept one fated)
    (sent.0 c.if-not-is_sending_settled.false, lost.0 c.if-not-is_loss_settled.false)

pub returns : goal.returns
returns g c all fates few kept lost_kept one fated = (
  λ t.
      subst (λ xs. All (λ (e : Event). IsSettled fates all e) xs)
      (take_all c.args.events.now c.loop-event.event-index c.loop-event-test.false)
      (c.loop-event.invariant all fates few kept lost_kept one fated),
  λ settled. refl,
)
