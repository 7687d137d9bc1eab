use Rattle.std.proofs.Common.{◌≡◌, length, reverse}
use Rattle.bm_core.specs.Causes as causes
use Rattle.bm_trace.proofs.held.is_elsewhere.Given as goal

abbrev pub invariant-loop-event : goal.invariant-loop-event
invariant-loop-event l =
    causes.is_elsewhere l.stage (reverse l.events) (reverse l.rest) l.flow l.server
    ≡ causes.is_elsewhere l.stage (reverse l.events) (reverse l.events) l.flow l.server

abbrev pub decreases-loop-event : goal.decreases-loop-event
decreases-loop-event l = length l.rest
