use Rattle.std.proofs.Common.{arith, ap, ◌∙◌}
use Rattle.bm_connections.specs.Times.{shown}
use Rattle.bm_drawing.specs.Drawing.{tick}
use Rattle.bm_drawing.specs.Scales as scale
use Rattle.bm_drawing.proofs.Lines.{ticks_all, ticks_more}
use Rattle.bm_drawing.proofs.axis.write_axis.Goals as goal

pub loop-number-preserved : goal.loop-number-preserved
loop-number-preserved c = record {
  written = ticks_more (tick c.args.plot)
      (scale.first_tick (shown c.args.plot.clock.0 0) (scale.tick_step c.args.plot.span))
      (scale.tick_step c.args.plot.span) c.first_tick-first.result c.tick_step-step.result c.loop-number.number _ _ _
      (c.first_tick-first.ensures.value
      ∙ ap (λ i. scale.first_tick i c.tick_step-step.result) c.shown.ensures
      ∙ ap (λ s. scale.first_tick (shown c.args.plot.clock.0 0) s) c.tick_step-step.ensures.step)
      c.tick_step-step.ensures.step c.in_ok-write_tick.ensures c.loop-number.invariant.written;
}

pub returns : goal.returns
returns c =
    ticks_all (tick c.args.plot)
    (scale.first_tick (shown c.args.plot.clock.0 0) (scale.tick_step c.args.plot.span))
    (scale.tick_step c.args.plot.span) c.first_tick-first.result c.tick_step-step.result c.args.plot.span
    c.loop-number.number _ _ _
    (c.first_tick-first.ensures.value
    ∙ ap (λ i. scale.first_tick i c.tick_step-step.result) c.shown.ensures
    ∙ ap (λ s. scale.first_tick (shown c.args.plot.clock.0 0) s) c.tick_step-step.ensures.step)
    c.tick_step-step.ensures.step (omega arith) c.in_ok-write_tick-2.ensures c.loop-number.invariant.written
