use Rattle.std.proofs.Common.{◌≡◌, length, reverse}
use Rattle.bm_core.specs.declared.events.Stage.{Stage}
use Rattle.bm_core.specs.Past as past
use Rattle.bm_trace.proofs.past.steer_of.Given as goal

abbrev pub invariant-loop-event : goal.invariant-loop-event
invariant-loop-event l = record {
  label : (stage : Stage)
      → past.label_of stage (reverse l.rest) l.packet ≡ past.label_of stage (reverse l.events) l.packet;
  owner : (stage : Stage) → past.owner stage (reverse l.rest) l.packet ≡ past.owner stage (reverse l.events) l.packet;
}

abbrev pub decreases-loop-event : goal.decreases-loop-event
decreases-loop-event l = length l.rest
