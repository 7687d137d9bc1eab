-- All that the code keeps of the events before an event, to find its cause.
use Rattle.std.specs.Prelude.{List}
use Rattle.bm_core.specs.declared.events.Event.{Event}
use Rattle.bm_core.specs.declared.events.Stage.{Stage}
use Rattle.bm_state.specs.Holders.{KeepsHolders}
use Rattle.bm_state.specs.Labels.{KeepsLabels}
use Rattle.bm_state.specs.Moves.{AreMoves}
use Rattle.bm_state.specs.Owners.{KeepsOwners}
use Rattle.bm_state.specs.Versions.{KeepsVersions}
use Rattle.bm_trace.specs.declared.known.Known.{Known}

pub record Knows (stage : Stage) (past : List Event) (k : Known) : Type 0 where
  pub versions : KeepsVersions past k.versions
  pub labels : KeepsLabels stage past k.labels
  pub owners : KeepsOwners stage past k.owners
  pub holders : KeepsHolders stage past k.holders
  pub moves : AreMoves stage.script.plan k.moves
