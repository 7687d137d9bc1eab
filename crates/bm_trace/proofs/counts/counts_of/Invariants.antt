use Rattle.std.proofs.Common.{◌≡◌, take}
use Rattle.bm_trace.specs.Inside.Counts as spec
use Rattle.bm_trace.proofs.counts.counts_of.Given as goal

abbrev pub invariant-loop-event : goal.invariant-loop-event
invariant-loop-event l = l.counts ≡ spec.counts_of (take l.event-index l.events)
