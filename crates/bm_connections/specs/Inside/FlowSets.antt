-- What a set of flows has.
use Rattle.std.specs.Prelude.{Bool, Option, Some, None, is_some, if◌then◌else◌}
use Rattle.std.specs.BTreeMap as tree
use Rattle.bm_base.specs.contracts.flow.FlowOrd.TheImpl as flow_order
use Rattle.bm_base.specs.declared.flow.Flow.{Flow}
use Rattle.bm_base.specs.Segments.{same_flow}
use Rattle.bm_connections.specs.declared.flow_set.FlowSet.{FlowSet}
use Rattle.bm_connections.specs.declared.flow_set.Membership.{Membership}

-- the flow is in the set
abbrev pub is_in : FlowSet → Flow → Bool
is_in set f = is_some (tree.get (flow_order.ghosts).cmp set.flows f)

-- whether the flow is in a set after this change of it
abbrev pub changed : Option Membership → Flow → Bool → Bool
changed None f before = before
changed (Some m) f before = if same_flow m.flow f then m.member else before
