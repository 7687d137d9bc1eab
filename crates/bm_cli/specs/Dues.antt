-- What the program is to write, by the words and by what is read under the names in them.
use Rattle.std.specs.Prelude.{◌≡◌, [], ◌∷◌, ◌++◌, ℕ, List, Option, Some, None, Result, Ok, Err}
use Rattle.bm_table.specs.declared.script.Script.{Script}
use Rattle.bm_core.specs.declared.events.Stage.{Stage}
use Rattle.bm_check.specs.declared.answer.Answer.{Answer as Checked}
use Rattle.bm_words.specs.Form.{Asked, Check, Load, Named, Replay, Run, Streams}
use Rattle.bm_cli.specs.declared.fault.StageFault.{StageFault}
use Rattle.bm_cli.specs.declared.fault.StageFault.TheVariants.{LongTrace}
use Rattle.bm_cli.specs.declared.mode.Mode.{Mode}
use Rattle.bm_cli.specs.declared.mode.Mode.TheVariants.{Replay as by_replay, Run as by_run}
use Rattle.bm_cli.specs.declared.status.Status.{Status}
use Rattle.bm_cli.specs.declared.status.Status.TheVariants.{Done, Usage, Exceeded}
use Rattle.bm_cli.specs.Checks.{IsCheckOf, checked_line, checked_status}
use Rattle.bm_cli.specs.Headline.{IsReportOf}
use Rattle.bm_cli.specs.Lines.{FaultLines, fault_status, usage_line}
use Rattle.bm_cli.specs.Loads.{IsSummaryOf}
use Rattle.bm_cli.specs.Names.{script_names}
use Rattle.bm_cli.specs.Reading.{Reading, Reads, reading, script_by}
use Rattle.bm_cli.specs.Streams.{AreStreams}

-- the words fit no form, and this usage line is written; there is a fault; a text is shown that
-- satisfies this; this text is shown, which says that the words ask about more than the script
-- allows; or a trace is judged by a check whose answer satisfies this
pub data Answer : Type 1 where
  Misused : List ℕ → Answer
  Refused : StageFault → Answer
  Shown : (List ℕ → Type 0) → Answer
  Warned : List ℕ → Answer
  Judged : (Checked → Type 0) → Answer

-- the names that the files are asked for, in order, and the answer
pub record Due : Type 1 where
  pub names : List (List ℕ)
  pub answer : Answer

-- the status and the text that are due, where faults are told by these lines
abbrev pub IsDue : FaultLines → Answer → Status → List ℕ → Type 0
IsDue lines (Misused line) says text = (says ≡ Usage) × (text ≡ line)
IsDue lines (Refused fault) says text = (says ≡ fault_status fault) × lines fault text
IsDue lines (Shown is) says text = (says ≡ Done) × is text
IsDue lines (Warned line) says text = (says ≡ Exceeded) × (text ≡ line)
IsDue lines (Judged is) says text =
    (a : Checked) × is a × (says ≡ checked_status a) × (text ≡ checked_line a)

-- A STAGE AND WHAT IS SHOWN OF IT

-- the script's name and then the capture's, which isn't asked for after a script that isn't played
abbrev pub names_after : Named → Result Script StageFault → List (List ℕ)
names_after names (Ok script) = script_names names.script ++ names.capture ∷ []
names_after names (Err fault) = script_names names.script

-- the text of a stage is due, or the line of its fault
abbrev pub answer_for : (Stage → List ℕ → Type 0) → Reading → Answer
answer_for is (Ok stage) = Shown (is stage)
answer_for is (Err fault) = Refused fault

-- a text is due that satisfies `is` for the stage that the names and the files ask for, or the line
-- of its fault
abbrev pub due_of_stage : Mode → (Stage → List ℕ → Type 0) → Named → Reads → Due
due_of_stage mode is names reads = record {
  names = names_after names (script_by mode reads names.script);
  answer = answer_for is (reading mode names reads);
}

-- A SCRIPT ALONE

-- what is due by the script, or the line of its fault
abbrev pub answer_by : (Script → Answer) → Result Script StageFault → Answer
answer_by of (Ok script) = of script
answer_by of (Err fault) = Refused fault

-- what is due by the script of this name, which alone is asked for, or the line of its fault
abbrev pub due_of_script : (Script → Answer) → List ℕ → Reads → Due
due_of_script of name reads =
    record { names = name ∷ []; answer = answer_by of (reads.script name) }

-- A STAGE AND A TRACE OF IT

-- the trace, unless it is too long
abbrev pub if_short : Option (List ℕ) → Result (List ℕ) StageFault
if_short None = Err LongTrace
if_short (Some trace) = Ok trace

-- a stage with a trace of it, or why there is none; a fault of the stage comes first
abbrev pub traced : Reading → Result (List ℕ) StageFault → Result (Stage × List ℕ) StageFault
traced (Ok stage) (Ok trace) = Ok (stage, trace)
traced (Ok stage) (Err fault) = Err fault
traced (Err fault) trace = Err fault

-- the trace's name, which isn't asked for after a fault of the stage
abbrev pub trace_names : Reading → List ℕ → List (List ℕ)
trace_names (Ok stage) trace = trace ∷ []
trace_names (Err fault) trace = []

-- the answer of a check is due, or the line of a fault
abbrev pub answer_of_check : Result (Stage × List ℕ) StageFault → Answer
answer_of_check (Ok read) = Judged (IsCheckOf read.0 read.1)
answer_of_check (Err fault) = Refused fault

-- the trace is judged by the stage that the names and the files ask for: script, capture, trace
abbrev pub due_of_check : List ℕ → Named → Reads → Due
due_of_check trace names reads =
    let stage = reading by_replay names reads in
    record {
      names =
          names_after names (script_by by_replay reads names.script) ++ trace_names stage trace;
      answer = answer_of_check (traced stage (if_short (reads.trace trace)));
    }

-- THE FORMS

-- what is due for the words, by what is read
abbrev pub due : Option Asked → Reads → Due
due None reads = record { names = []; answer = Misused usage_line }
due (Some (Replay names)) reads = due_of_stage by_replay (IsReportOf by_replay) names reads
due (Some (Run capture script)) reads =
    due_of_stage by_run (IsReportOf by_run) (record { capture = capture; script = Some script }) reads
due (Some (Streams names)) reads = due_of_stage by_replay (AreStreams names reads) names reads
due (Some (Check trace capture script)) reads =
    due_of_check trace (record { capture = capture; script = Some script }) reads
due (Some (Load n)) reads = record { names = []; answer = Shown (IsSummaryOf n) }
