-- How a call ends, and whether the changes fail a connection.
use Rattle.std.specs.Prelude.{◌≡◌, ◌==◌, ℕ, Bool, true, false, if◌then◌else◌, List, Option, Some, None}
use Rattle.std.specs.Prelude.{IsOkAnd}
use Rattle.bm_core.specs.declared.events.History.{History}
use Rattle.bm_core.specs.declared.events.Stage.{Stage}
use Rattle.bm_script.specs.declared.verbs.ChangeVerb.{ChangeVerb}
use Rattle.bm_cli.specs.declared.mode.Mode.TheVariants.{Replay}
use Rattle.bm_cli.specs.declared.status.Status.{Status}
use Rattle.bm_cli.specs.declared.status.Status.TheVariants.{Done}
use Rattle.bm_cli.specs.Reading.{Reading, Reads, reading}
use Rattle.bm_cli.specs.Statuses.{code_of}
use Rattle.bm_connections.specs.declared.compared.Compared.{Compared}
use Rattle.bm_connections_cli.specs.declared.failing.Outcome.{Outcome}
use Rattle.bm_connections_cli.specs.Failing.{DoesFail}
use Rattle.bm_connections_cli.specs.Stories.{story_report}
use Rattle.bm_connections_cli.specs.Text.{report}
use Rattle.bm_connections_words.specs.declared.options.Format.{Format}
use Rattle.bm_connections_words.specs.Options.{Chosen}
use Rattle.bm_connections_words.specs.Words.{Asked, Connections, Help, Lifetime, Version}

-- the exit status in place of this one if the changes fail a connection
abbrev pub failed : ℕ → ℕ
failed code = if code == 0 then 10 else code

abbrev pub outcome_code : Bool → Status → ℕ
outcome_code fails status = if fails then failed (code_of status) else code_of status

-- whether the changes of a stage fail a connection, if that is asked
abbrev pub FailsIf : Bool → Stage → Bool → Type 0
FailsIf false stage so = so ≡ false
FailsIf true stage so = DoesFail stage so

-- the option asks whether the changes of this stage fail a connection
abbrev pub Decides : Bool → Stage → Outcome → Type 0
Decides false stage o = o.fails ≡ false
Decides true stage o = o.status ≡ Done → DoesFail stage o.fails

-- the same, of the stage that is read
abbrev pub DecidesRead : Bool → Reading → Outcome → Type 0
DecidesRead false reading o = o.fails ≡ false
DecidesRead true reading o = o.status ≡ Done → IsOkAnd reading (λ stage. DoesFail stage o.fails)

-- the same, by the words
abbrev pub DecidesBy : Option Asked → Reads → Outcome → Type 0
DecidesBy None reads o = o.fails ≡ false
DecidesBy (Some (Connections names options)) reads o =
    DecidesRead options.fail (reading Replay names reads) o
DecidesBy (Some (Lifetime script seconds)) reads o = o.fails ≡ false
DecidesBy (Some Help) reads o = o.fails ≡ false
DecidesBy (Some Version) reads o = o.fails ≡ false

-- what is told of connections: a report in this format, or the stories of those that are chosen
abbrev pub told_by : Format → Option Chosen → Option ℕ → List ChangeVerb → History
    → List Compared → List ℕ
told_by format None = report format
told_by format (Some chosen) = λ clock verbs. story_report chosen clock
