use Rattle.std.proofs.Common.{◌≡◌, length, reverse}
use Rattle.bm_core.specs.Past as past
use Rattle.bm_trace.proofs.past.version_at.Given as goal

abbrev pub invariant-loop-event : goal.invariant-loop-event
invariant-loop-event l = past.version_at (reverse l.rest) l.mux ≡ past.version_at (reverse l.events) l.mux

abbrev pub decreases-loop-event : goal.decreases-loop-event
decreases-loop-event l = length l.rest
