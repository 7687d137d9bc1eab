-- What the code keeps of a story while it goes through events.
use Rattle.std.specs.Prelude.{◌≡◌, ℕ, List, Option, string_bytes}
use Rattle.bm_base.specs.declared.flow.Flow.{Flow}
use Rattle.bm_core.specs.declared.events.Event.{Event}
use Rattle.bm_core.specs.declared.events.Stage.{Stage}
use Rattle.bm_state.specs.Versions.{KeepsVersions}
use Rattle.bm_connections.specs.declared.story.Story.{Story}
use Rattle.bm_connections.specs.Story.{story_lines}

-- this was told of the flow after these events
pub record Tells (clock : Option ℕ) (stage : Stage) (f : Flow) (past : List Event) (s : Story) : Type 0
  where
    pub told : string_bytes s.text ≡ story_lines clock stage f past
    pub versions : KeepsVersions past s.versions
