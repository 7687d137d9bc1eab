-- What was read of a stage and of a trace of it.
use Rattle.std.specs.Prelude.{ℕ, List, Option, Some, None, Result}
use Rattle.bm_core.specs.declared.events.Stage.{Stage}
use Rattle.bm_words.specs.Form.{Named}
use Rattle.bm_cli.specs.declared.fault.StageFault.{StageFault}
use Rattle.bm_cli.specs.declared.mode.Mode.TheVariants.{Replay}
use Rattle.bm_cli.specs.Dues.{due_of_check, if_short, traced}
use Rattle.bm_cli.specs.Ends.{AsksFor}
use Rattle.bm_cli.specs.Reading.{Octets, Reads, reading, trace_in}
use Rattle.bm_cli.specs.Stages.{IsRead, status_by}
use Rattle.bm_cli.specs.Statuses.{FilesDid}

-- what was read of a trace; some trace, if the files' octets aren't known
abbrev pub ReadsTraceFile : Octets → List ℕ → Result (List ℕ) StageFault → Type 0
ReadsTraceFile None name result = (trace : Option (List ℕ)) × IsRead (if_short trace) result
ReadsTraceFile (Some octets) name result = IsRead (if_short (trace_in (octets name))) result

abbrev pub both_named : List ℕ → List ℕ → Named
both_named capture script = record { capture = capture; script = Some script }

-- the stage and the trace that are due were read, or the first fault, and the files were asked for
-- their names
pub record ReadsTrace (trace capture script : List ℕ) (reads : Reads) (files : FilesDid)
    (result : Result (Stage × List ℕ) StageFault) : Type 0 where
  pub read :
      IsRead
      (traced (reading Replay (both_named capture script) reads) (if_short (reads.trace trace)))
      result
  pub asks : AsksFor (due_of_check trace (both_named capture script) reads).names (status_by result)
      files
