use Rattle.std.proofs.Common.{ap, get_or, sym, ◌∙◌}
use Rattle.bm_core.specs.Past.{newest, published_by}
use Rattle.bm_state.proofs.Newest.{reverse_take}
use Rattle.bm_check.proofs.Ordering.{no_event}
use Rattle.bm_check.proofs.orders.newest_version.Goals as goal

pub loop-event-preserved : goal.loop-event-preserved
loop-event-preserved c =
    let events = c.args.events.now
    in let i = c.loop-event.event-index
    in c.published_by-newest.ensures ∙ ap (λ n. published_by (get_or events i no_event).what n) c.loop-event.invariant
    ∙ ap newest (sym (reverse_take events i no_event c.loop-event-test.true))
