-- What the code keeps of connections that an RST ended, and how it takes that into the table.
use Rattle.std.specs.Prelude.{◌≡◌, Bool, true, false, ◌&&◌, not, if◌then◌else◌, List, Option}
use Rattle.std.specs.Prelude.{Some, None}
use Rattle.bm_base.specs.declared.flow.Flow.{Flow}
use Rattle.bm_base.specs.declared.flow.Segment.{Segment}
use Rattle.bm_base.specs.Segments.{RST, has_flag, is_opening}
use Rattle.bm_core.specs.declared.events.Event.{Event}
use Rattle.bm_core.specs.declared.events.Stage.{Stage}
use Rattle.bm_core.specs.declared.events.Verdict.{Verdict}
use Rattle.bm_core.specs.declared.events.What.{What}
use Rattle.bm_core.specs.declared.events.What.TheVariants.{Arrive}
use Rattle.bm_core.specs.Past.{ends, segment_of}
use Rattle.bm_connections.specs.declared.connection.Connection.{Connection}
use Rattle.bm_connections.specs.declared.connection.Ending.{Ending}
use Rattle.bm_connections.specs.declared.connection.Ending.TheVariants.{Close as ByClose, Reset}
use Rattle.bm_connections.specs.declared.flow_set.FlowSet.{FlowSet}
use Rattle.bm_connections.specs.declared.flow_set.Membership.{Membership}
use Rattle.bm_connections.specs.declared.resets.Resets.{Resets}
use Rattle.bm_connections.specs.Connections.{is_ended}
use Rattle.bm_connections.specs.Inside.FlowSets.{is_in}

-- the flow whose connection a segment with this verdict begins or ends, if it does; the arrival is a
-- break or not
abbrev pub reset_by : Option Segment → Verdict → Bool → Option Membership
reset_by None verdict broke = None
reset_by (Some s) verdict broke =
    if is_opening s then Some (record { flow = s.flow; member = false })
    else if has_flag RST s && (ends verdict && not broke)
    then Some (record { flow = s.flow; member = true }) else None

-- the flow whose connection the event, which is a break or not, begins or ends
abbrev pub reset_of : Stage → What → Bool → Option Membership
reset_of stage (Arrive k hop server verdict) broke =
    reset_by (segment_of stage k) verdict broke
reset_of stage _ broke = None

-- the flows are kept that an RST has ended after these events
pub record KnowsResets (stage : Stage) (past : List Event) (resets : Resets) : Type 0 where
  pub each : (f : Flow) → is_in resets.ended f ≡ is_ended stage f past

-- the segment doesn't open its flow, which is one of those that are kept
abbrev pub follows_end : Resets → Segment → Bool
follows_end resets s = not (is_opening s) && is_in resets.ended s.flow

-- how a connection ended, if these flows are closed and these were reset
abbrev pub ending_of : FlowSet → Resets → Connection → Ending
ending_of closed resets c =
    if is_in closed c.flow then ByClose
    else if is_in resets.ended c.flow then Reset else c.ending

abbrev pub with_end : FlowSet → Resets → Connection → Connection
with_end closed resets c = record c { ending = ending_of closed resets c }
