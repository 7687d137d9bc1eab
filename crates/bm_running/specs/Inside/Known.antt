-- What is known of the events so far.
use Rattle.std.specs.Prelude.{List}
use Rattle.bm_core.specs.declared.events.Event.{Event}
use Rattle.bm_core.specs.declared.events.Stage.{Stage}
use Rattle.bm_core.specs.Past.{newest}
use Rattle.bm_core.specs.Runs.{Run}
use Rattle.bm_state.specs.Clocks.{KeepsClocks}
use Rattle.bm_state.specs.Labels.{KeepsLabels}
use Rattle.bm_state.specs.Moves.{AreMoves}
use Rattle.bm_state.specs.Losses.{KeepsLosses}
use Rattle.bm_state.specs.Tallies.{KeepsTallies}
use Rattle.bm_state.specs.Versions.{KeepsVersions}
use Rattle.bm_running.specs.declared.known.Known.{Known}
use Rattle.bm_running.specs.Inside.Leaves.{KeepsLeaves}
use Rattle.bm_running.specs.Inside.Shards.{KeepsShards}

-- the events are a run, and this is what they left
pub record Knows (stage : Stage) (past : List Event) (k : Known) : Type 0 where
  pub run : Run stage past
  pub clocks : KeepsClocks stage past k.clocks
  pub versions : KeepsVersions past k.versions
  pub labels : KeepsLabels stage past k.labels
  pub moves : AreMoves stage.script.plan k.moves
  pub tallies : KeepsTallies past k.tallies
  pub losses : KeepsLosses past k.losses
  pub shards : KeepsShards stage past k.shards
  pub leaves : KeepsLeaves stage.script.plan (newest past) k.leaves
