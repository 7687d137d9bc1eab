-- Which stages are sound (docs/DEFINITIONS.md). A stage is the script and the capture that a
-- history is about.
use Rattle.bm_core.specs.declared.events.Stage.{Stage}
pub use Rattle.bm_table.specs.Scripts.{moment_of_command, NamesVersions, IsSoundScript}
pub use Rattle.bm_base.specs.Captures.{AreRising, IsService, IsFit, IsReplayable}

-- what a history may be about
pub record IsSound (stage : Stage) : Type 0 where
  pub script : IsSoundScript stage.script
  -- the records' moments never decrease, and what is steered goes to a service
  pub capture : IsReplayable stage.script.setting.vips stage.capture
