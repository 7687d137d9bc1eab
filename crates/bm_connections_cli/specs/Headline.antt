-- What the program promises of what it writes.
use Rattle.std.specs.Prelude.{◌≡◌, ℕ, List, Option}
use Rattle.bm_core.specs.declared.events.History.{History}
use Rattle.bm_core.specs.declared.events.Stage.{Stage}
use Rattle.bm_script.specs.declared.verbs.ChangeVerb.{ChangeVerb}
use Rattle.bm_cli.specs.declared.mode.Mode.TheVariants.{Replay}
use Rattle.bm_cli.specs.Headline.{IsMadeBy}
use Rattle.bm_connections.specs.Base.{base_of}
use Rattle.bm_connections.specs.Connections.{connections}
use Rattle.bm_drawing.specs.Drawing.{drawing}
use Rattle.bm_connections_words.specs.declared.options.Format.{Format}
use Rattle.bm_connections_cli.specs.Stories.{stories}
use Rattle.bm_connections_cli.specs.Text.{text}
use Rattle.bm_connections_words.specs.Options.{Chosen}

-- a replay of the stage: a run that follows its script to the end, and in which every packet is
-- accounted for
abbrev pub IsReplayOf : Stage → History → Type 0
IsReplayOf stage history = (history.stage ≡ stage) × IsMadeBy Replay stage history

-- this is what follows so from the replay of a stage and from that of its base
pub record IsOfReplays {A : Type 0} (of : History → History → A) (stage : Stage) (value : A)
    : Type 0 where
  -- there is a replay
  pub history : History
  pub replay : IsReplayOf stage history
  -- and one of its base, which is the same stage without its changes
  pub base : History
  pub base_replay : IsReplayOf (base_of stage) base
  -- for every two histories that are such replays, it follows from them
  pub follows : (h b : History) → IsReplayOf stage h → IsReplayOf (base_of stage) b →
      value ≡ of h b

-- these octets are the text of the replay of a stage and of that of its base
abbrev pub IsTextOf : (History → History → List ℕ) → Stage → List ℕ → Type 0
IsTextOf text = IsOfReplays text

-- these octets report, in this format and by this clock, the connections of the replay of the
-- stage, which of them its changes broke, and what its commands, which say this, changed
abbrev pub IsTableOf : Format → Option ℕ → List ChangeVerb → Stage → List ℕ → Type 0
IsTableOf format clock verbs stage octets = IsTextOf (text format clock verbs) stage octets

-- these octets draw, by this clock, the connections of the replay of the stage
pub record IsDrawingOf (clock : Option ℕ) (stage : Stage) (octets : List ℕ) : Type 0 where
  -- there is a replay
  pub history : History
  pub replay : IsReplayOf stage history
  -- for every history that is such a replay, the octets draw its connections
  pub drawn : (h : History) → IsReplayOf stage h → octets ≡ drawing clock h (connections h)

-- these octets tell, by this clock, the stories of the chosen connections of the replay of the stage
abbrev pub AreStoriesOf : Chosen → Option ℕ → Stage → List ℕ → Type 0
AreStoriesOf chosen clock stage octets = IsTextOf (stories chosen clock) stage octets
