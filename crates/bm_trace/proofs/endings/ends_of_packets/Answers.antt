use Rattle.std.proofs.Common.{◌+◌, ◌∙◌, arith, ap, reverse}
use Rattle.bm_trace.specs.Report as report
use Rattle.bm_trace.proofs.Parted.{event_observed}
use Rattle.bm_trace.proofs.Pieces.{take_over}
use Rattle.bm_trace.proofs.endings.ends_of_packets.Goals as goal

pub loop-event-preserved : goal.loop-event-preserved
loop-event-preserved c = record {
  count = c.in_ok-observe.ensures.count ∙ c.loop-event.invariant.count;
  ends = λ k below.
      event_observed c.args.events.now c.loop-event.event-index _ (k + 1) _ _ (omega (arith, c.loop-event-test.true))
      (c.loop-event.invariant.ends k below)
      (c.in_ok-observe.ensures.observed k (omega (arith, below, c.loop-event.invariant.count)));
}

pub returns-clause-ends : goal.returns-clause-ends
returns-clause-ends c = λ k below.
    c.loop-event.invariant.ends k below
    ∙ ap (λ es. report.ends_of (reverse es) (k + 1))
    (take_over c.args.events.now c.loop-event.event-index (omega (arith, c.loop-event-test.false)))
