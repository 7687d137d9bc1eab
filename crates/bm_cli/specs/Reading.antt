-- What the words and the named files ask for: a stage to play, or the first fault.
use Rattle.std.specs.Prelude.{◌≡◌, ℕ, nat_lt, if◌then◌else◌, List, [], length, Option, Some, None}
use Rattle.std.specs.Prelude.{Result, Ok, Err}
use Rattle.bm_base.specs.declared.capture.Vip.{Vip}
use Rattle.bm_table.specs.declared.script.Script.{Script}
use Rattle.bm_script.specs.declared.fault.ScriptFault.{ScriptFault}
use Rattle.bm_script.specs.declared.verbs.ChangeVerb.{ChangeVerb}
use Rattle.bm_script.specs.Scripts.{script_of}
use Rattle.bm_script.specs.Verbs.{verbs_of}
use Rattle.bm_core.specs.declared.events.Stage.{Stage}
use Rattle.bm_words.specs.Form.{Named}
use Rattle.bm_world.specs.Seats.{seats_of}
use Rattle.bm_pcap.specs.Capture.{Captured}
use Rattle.bm_cli.specs.Captures.{began, capture}
use Rattle.bm_cli.specs.declared.fault.StageFault.{StageFault}
use Rattle.bm_cli.specs.declared.fault.StageFault.TheVariants.{LongScript, Seats}
use Rattle.bm_cli.specs.declared.fault.StageFault.TheVariants.{Script as of_script}
use Rattle.bm_cli.specs.declared.fault.StageFault.TheVariants.{Capture as of_capture}
use Rattle.bm_cli.specs.declared.mode.Mode.{Mode}
use Rattle.bm_cli.specs.declared.mode.Mode.TheVariants.{Replay, Run}
use Rattle.bm_cli.specs.Plain.{plain_script}

-- WHAT THE FILES CONTAIN

-- the octets of each name, if they are known
abbrev pub Octets : Type 0
Octets = Option (List ℕ → List ℕ)

-- what is read under each name: a script, what its commands say that they change, the capture for
-- these services, when it began, and a trace, unless it is too long
pub record Reads : Type 0 where
  pub script : List ℕ → Result Script StageFault
  pub verbs : List ℕ → List ChangeVerb
  pub capture : List ℕ → List Vip → Captured
  pub began : List ℕ → ℕ
  pub trace : List ℕ → Option (List ℕ)

abbrev pub with_script_fault : Result Script ScriptFault → Result Script StageFault
with_script_fault (Ok script) = Ok script
with_script_fault (Err fault) = Err (of_script fault)

-- the script that these octets are, if there are at most 1,048,576 of them
abbrev pub script_in : List ℕ → Result Script StageFault
script_in octets =
    if nat_lt 1048576 (length octets) then Err LongScript else with_script_fault (script_of octets)

-- these octets, if there are at most 268,435,456 of them
abbrev pub trace_in : List ℕ → Option (List ℕ)
trace_in octets = if nat_lt 268435456 (length octets) then None else Some octets

-- what is read, by the octets of each name
abbrev pub reads_of : (List ℕ → List ℕ) → Reads
reads_of octets = record {
  script = λ name. script_in (octets name);
  verbs = λ name. verbs_of (octets name);
  capture = λ name vips. capture vips (octets name);
  began = λ name. began (octets name);
  trace = λ name. trace_in (octets name);
}

-- these are what is read, if the files' octets are known; otherwise they may be any
abbrev pub Known : Octets → Reads → Type 0
Known None reads = Unit {0}
Known (Some octets) reads = reads ≡ reads_of octets

-- The fact holds for what is read: for what the files' octets give, if these are known, and
-- otherwise only for some reads.
pub record Holds (told : Octets) (fact : Reads → Type 0) : Type 0 where
  pub reads : Reads
  pub known : Known told reads
  pub holds : fact reads

-- THE STAGE

-- a stage to play, or why there is none
abbrev pub Reading : Type 0
Reading = Result Stage StageFault

-- the script that the words name, or the one that sets nothing
abbrev pub script_for : Reads → Option (List ℕ) → Result Script StageFault
script_for reads None = Ok plain_script
script_for reads (Some name) = reads.script name

-- what the commands of that script say that they change
abbrev pub verbs_for : Reads → Option (List ℕ) → List ChangeVerb
verbs_for reads None = []
verbs_for reads (Some name) = reads.verbs name

-- the script, if a stage with it may be played in this mode: a run has at most 65,536 seats
abbrev pub taken : Mode → Script → Result Script StageFault
taken Replay script = Ok script
taken Run script = if nat_lt 65536 (seats_of script) then Err Seats else Ok script

abbrev pub if_taken : Mode → Result Script StageFault → Result Script StageFault
if_taken mode (Ok script) = taken mode script
if_taken mode (Err fault) = Err fault

-- the script to play
abbrev pub script_by : Mode → Reads → Option (List ℕ) → Result Script StageFault
script_by mode reads name = if_taken mode (script_for reads name)

abbrev pub with_capture : Script → Captured → Reading
with_capture script (Ok read) = Ok (record { script = script; capture = read.0 })
with_capture script (Err fault) = Err (of_capture fault)

-- the packets of the capture go to the script's services
abbrev pub with_script : Result Script StageFault → (List Vip → Captured) → Reading
with_script (Ok script) capture = with_capture script (capture script.setting.vips)
with_script (Err fault) capture = Err fault

-- the script comes first, then the seats, and then the capture
abbrev pub reading : Mode → Named → Reads → Reading
reading mode names reads =
    with_script (script_by mode reads names.script) (reads.capture names.capture)
