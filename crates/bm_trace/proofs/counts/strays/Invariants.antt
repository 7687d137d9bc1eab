use Rattle.std.proofs.Common.{◌≡◌, ◌+◌, ◌≤◌, length, reverse}
use Rattle.bm_trace.specs.Totals as totals
use Rattle.bm_trace.proofs.counts.strays.Given as goal

abbrev pub invariant-loop-event : goal.invariant-loop-event
invariant-loop-event l = record {
  counted : l.count + totals.strays l.stage (reverse l.rest) ≡ totals.strays l.stage (reverse l.events);
  few : l.count + length l.rest ≤ length l.events;
}

abbrev pub decreases-loop-event : goal.decreases-loop-event
decreases-loop-event l = length l.rest
