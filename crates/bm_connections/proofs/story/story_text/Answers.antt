use Rattle.std.proofs.Common.{◌∙◌}
use Rattle.bm_connections.specs.Inside.Stories.{Tells}
use Rattle.bm_connections.proofs.Passes.{cause_here, past_more}
use Rattle.bm_connections.proofs.story.story_text.Goals as goal

pub loop-place-preserved : goal.loop-place-preserved
loop-place-preserved c = record {
  told = past_more (λ past. Tells c.args.clock.0 c.args.h.now.stage c.args.flow.now past c.observe.new.self)
      c.items-events.result.now c.loop-place.place _ c.loop-place-test.true
      (c.in_ok-observe.ensures _
      (cause_here c.args.h.now c.items-events.result.now c.loop-place.place _ c.at.result c.items-events.ensures
      c.loop-place-test.true (c.at.ensures ∙ c.requires.causes c.loop-place.place))
      c.loop-place.invariant.told);
}

pub loop-place-init : goal.loop-place-init
loop-place-init c = record { told = c.new-story.ensures c.args.clock c.args.h.now.stage c.args.flow.now }
