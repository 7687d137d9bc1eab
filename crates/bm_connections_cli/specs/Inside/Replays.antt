-- The replays of a stage and of its base.
use Rattle.std.specs.Prelude.{◌≡◌, Bool, List, map}
use Rattle.bm_core.specs.declared.events.History.{History}
use Rattle.bm_core.specs.declared.events.Stage.{Stage}
use Rattle.bm_connections.specs.Base.{base_of, is_whole}
use Rattle.bm_connections.specs.Connections.{connections}
use Rattle.bm_connections_cli.specs.Headline.{IsReplayOf}

-- the history is the replay of the stage, and these are the connections that are whole in the replay
-- of its base
pub record AreReplays (stage : Stage) (h : History) (wholes : List Bool) : Type 0 where
  pub replay : IsReplayOf stage h
  pub base : History
  pub base_replay : IsReplayOf (base_of stage) base
  pub whole : wholes ≡ map is_whole (connections base)
