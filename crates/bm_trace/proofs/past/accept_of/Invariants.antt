use Rattle.std.proofs.Common.{◌≡◌, length, reverse}
use Rattle.bm_core.specs.Past as past
use Rattle.bm_trace.proofs.past.accept_of.Given as goal

abbrev pub invariant-loop-event : goal.invariant-loop-event
invariant-loop-event l =
    past.accept_of l.stage (reverse l.rest) l.flow ≡ past.accept_of l.stage (reverse l.events) l.flow

abbrev pub decreases-loop-event : goal.decreases-loop-event
decreases-loop-event l = length l.rest
