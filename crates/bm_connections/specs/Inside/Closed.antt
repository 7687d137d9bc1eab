-- What the code keeps of connections that a `close` closed.
use Rattle.std.specs.Prelude.{◌≡◌, true, false, if◌then◌else◌, List, Option, Some, None}
use Rattle.std.specs.Prelude.{option_map}
use Rattle.bm_base.specs.declared.flow.Flow.{Flow}
use Rattle.bm_base.specs.declared.flow.Segment.{Segment}
use Rattle.bm_core.specs.declared.events.Event.{Event}
use Rattle.bm_core.specs.declared.events.Stage.{Stage}
use Rattle.bm_core.specs.declared.events.What.{What}
use Rattle.bm_core.specs.declared.events.What.TheVariants.{Arrive, Close}
use Rattle.bm_core.specs.Past.{is_accept, segment_of}
use Rattle.bm_connections.specs.declared.flow_set.FlowSet.{FlowSet}
use Rattle.bm_connections.specs.declared.flow_set.Membership.{Membership}
use Rattle.bm_connections.specs.Connections.{is_closed}
use Rattle.bm_connections.specs.Inside.FlowSets.{is_in}

-- the segment's flow is opened
abbrev pub opened_by : Option Segment → Option Membership
opened_by segment = option_map (λ s. record { flow = s.flow; member = false }) segment

-- the flow that the event closes or opens
abbrev pub closing_of : Stage → What → Option Membership
closing_of stage (Arrive k hop server verdict) =
    if is_accept verdict then opened_by (segment_of stage k) else None
closing_of stage (Close server flow closed) =
    if closed then Some (record { flow = flow; member = true }) else None
closing_of stage _ = None

-- the set has the flows that are closed after these events
pub record AreClosed (stage : Stage) (past : List Event) (set : FlowSet) : Type 0 where
  pub each : (f : Flow) → is_in set f ≡ is_closed stage f past
