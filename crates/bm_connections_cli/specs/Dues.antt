-- What the program is to write, by the words and by what is read under the names in them.
use Rattle.std.specs.Prelude.{◌≡◌, ℕ, Bool, if◌then◌else◌, List, [], Option, Some, None}
use Rattle.bm_core.specs.declared.events.Stage.{Stage}
use Rattle.bm_script.specs.declared.verbs.ChangeVerb.{ChangeVerb}
use Rattle.bm_words.specs.Form.{Named}
use Rattle.bm_cli.specs.declared.mode.Mode.TheVariants.{Replay}
use Rattle.bm_cli.specs.Dues.{Due, Misused, Shown, due_of_script, due_of_stage}
use Rattle.bm_cli.specs.Reading.{Reads, verbs_for}
use Rattle.bm_connections_cli.specs.Headline.{AreStoriesOf, IsDrawingOf, IsTableOf}
use Rattle.bm_connections_cli.specs.Help.{help_text, usage_line, version_line}
use Rattle.bm_connections_cli.specs.Lifetime.{lifetime_answer}
use Rattle.bm_connections_words.specs.declared.options.Format.{Format}
use Rattle.bm_connections_words.specs.declared.options.Format.TheVariants.{Lines, Csv, Json, Svg}
use Rattle.bm_connections_words.specs.Options.{Chosen, Options, format_in}
use Rattle.bm_connections_words.specs.Words.{Asked, Connections, Help, Lifetime, Version}

-- when the named capture began, if its wall clock is asked for
abbrev pub clock_of : Bool → Named → Reads → Option ℕ
clock_of clock names reads = if clock then Some (reads.began names.capture) else None

-- the connections of the replay of a stage are reported in this format, by a clock and by what the
-- script's commands say
abbrev pub shown_in : Format → Option ℕ → List ChangeVerb → Stage → List ℕ → Type 0
shown_in Lines = IsTableOf Lines
shown_in Csv = IsTableOf Csv
shown_in Json = IsTableOf Json
shown_in Svg = λ clock verbs. IsDrawingOf clock

-- the same, or the stories of those that are chosen are told
abbrev pub shown_by : Format → Option Chosen → Option ℕ → List ChangeVerb → Stage → List ℕ → Type 0
shown_by format None = shown_in format
shown_by format (Some chosen) = λ clock verbs. AreStoriesOf chosen clock

abbrev pub IsShownBy : Options → Option ℕ → List ChangeVerb → Stage → List ℕ → Type 0
IsShownBy options = shown_by (format_in options.format) options.chosen

-- no file is asked for, and this text is shown
abbrev pub due_text : List ℕ → Due
due_text text = record { names = []; answer = Shown (λ shown. shown ≡ text) }

-- the connections of the replay that `beamer replay` makes are due, or the lifetime of the script,
-- or the line of a fault; or the help, or the version
abbrev pub due_of : Asked → Reads → Due
due_of (Connections names options) reads =
    due_of_stage Replay
    (IsShownBy options (clock_of options.clock names reads) (verbs_for reads names.script)) names reads
due_of (Lifetime script seconds) reads = due_of_script (lifetime_answer seconds) script reads
due_of Help reads = due_text help_text
due_of Version reads = due_text version_line

-- what is due for the words, by what is read
abbrev pub due : Option Asked → Reads → Due
due None reads = record { names = []; answer = Misused usage_line }
due (Some asked) reads = due_of asked reads
