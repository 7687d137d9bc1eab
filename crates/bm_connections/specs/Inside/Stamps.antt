-- What the code keeps of labels, for the stamps in them.
use Rattle.std.specs.Prelude.{List}
use Rattle.bm_core.specs.declared.events.Event.{Event}
use Rattle.bm_core.specs.declared.events.Stage.{Stage}
use Rattle.bm_state.specs.Labels.{KeepsLabels}
use Rattle.bm_state.specs.Moves.{AreMoves}
use Rattle.bm_state.specs.Versions.{KeepsVersions}
use Rattle.bm_connections.specs.declared.stamps.Stamps.{Stamps}

-- this is kept after these events
pub record KnowsStamps (stage : Stage) (past : List Event) (s : Stamps) : Type 0 where
  pub versions : KeepsVersions past s.versions
  pub labels : KeepsLabels stage past s.labels
  pub moves : AreMoves stage.script.plan s.moves
