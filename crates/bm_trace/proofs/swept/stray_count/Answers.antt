use Rattle.std.proofs.Common.{rules, ◌∙◌}
use Rattle.bm_trace.proofs.Sweeping.{stray_counted}
use Rattle.bm_trace.proofs.swept.stray_count.Goals as goal

pub loop-place-preserved : goal.loop-place-preserved
loop-place-preserved c = record {
  counted =
      stray_counted c.args.h.now c.loop-place.place c.loop-place.count c.counted-count.result _
      c.items-event-items.result.now c.at.result c.is_stray.result
      c.requires.run c.items-event-items.ensures c.loop-place-test.true
      (c.at.ensures ∙ c.requires.causes c.loop-place.place) c.loop-place.invariant.counted c.is_stray.ensures
      c.counted-count.ensures;
  few = search rules;
}
