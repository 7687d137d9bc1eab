use Rattle.std.proofs.Common.{length}
use Rattle.bm_trace.specs.Types.{AreEvents}
use Rattle.bm_trace.proofs.laws.read_events.Given as goal

abbrev pub invariant-loop-event : goal.invariant-loop-event
invariant-loop-event l = AreEvents l.rest → AreEvents l.events

abbrev pub decreases-loop-event : goal.decreases-loop-event
decreases-loop-event l = length l.rest
