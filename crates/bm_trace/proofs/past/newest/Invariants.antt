use Rattle.std.proofs.Common.{◌≡◌, length, reverse}
use Rattle.bm_core.specs.Past as past
use Rattle.bm_trace.proofs.past.newest.Given as goal

abbrev pub invariant-loop-event : goal.invariant-loop-event
invariant-loop-event l = past.newest (reverse l.rest) ≡ past.newest (reverse l.events)

abbrev pub decreases-loop-event : goal.decreases-loop-event
decreases-loop-event l = length l.rest
