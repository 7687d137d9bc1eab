use Rattle.std.proofs.Common.{◌≡◌, length, reverse, option_map}
use Rattle.bm_core.specs.Past as past
use Rattle.bm_trace.proofs.held.held_place.Given as goal

abbrev pub invariant-loop-event : goal.invariant-loop-event
invariant-loop-event l =
    option_map (λ h. h.place) (past.held l.stage (reverse l.rest) l.server l.flow)
    ≡ option_map (λ h. h.place) (past.held l.stage (reverse l.events) l.server l.flow)

abbrev pub decreases-loop-event : goal.decreases-loop-event
decreases-loop-event l = length l.rest
