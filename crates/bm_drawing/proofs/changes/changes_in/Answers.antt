use Rattle.bm_core.specs.declared.events.Event.{Event}
use Rattle.bm_drawing.specs.Drawing.{published}
use Rattle.bm_drawing.proofs.Lines.{items_more}
use Rattle.bm_drawing.proofs.changes.changes_in.Goals as goal

pub loop-event-preserved : goal.loop-event-preserved
loop-event-preserved c = record {
  collected = items_more (λ (e : Event). published c.args.plan.now e.clock e.what) c.args.events.now
      c.loop-event.event-index _ _ _ c.loop-event-test.true c.in_ok-push_published.ensures
      c.loop-event.invariant.collected;
}
