-- What the laws say of connections (docs/DEFINITIONS.md).
use Rattle.std.specs.Prelude.{Bool, false, ◌||◌, List, [], ◌∷◌}
use Rattle.bm_base.specs.declared.flow.Flow.{Flow}
use Rattle.bm_core.specs.declared.events.Event.{Event}
use Rattle.bm_core.specs.declared.events.Stage.{Stage}
use Rattle.bm_connections.specs.Connections.{breaks}

-- one of these events breaks the flow
abbrev pub is_broken : Stage → Flow → List Event → Bool
is_broken stage f [] = false
is_broken stage f (e ∷ past) = breaks stage f past e.what || is_broken stage f past
