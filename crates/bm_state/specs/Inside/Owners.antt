-- A look-up of Accepts by segment.
use Rattle.std.specs.Prelude.{Option, Some, None}
use Rattle.bm_base.specs.declared.flow.Flow.{Flow}
use Rattle.bm_base.specs.declared.flow.Segment.{Segment}
use Rattle.bm_state.specs.declared.owners.Owner.{Owner}

-- what is found for a segment's flow
abbrev pub accept_for : (Flow → Option Owner) → Option Segment → Option Owner
accept_for accepts None = None
accept_for accepts (Some s) = accepts s.flow
