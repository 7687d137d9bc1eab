-- What was read of a stage, and of a script alone.
use Rattle.std.specs.Prelude.{◌≡◌, ◌⊎◌, ℕ, List, [], ◌∷◌, Result, Ok, Err}
use Rattle.bm_table.specs.declared.script.Script.{Script}
use Rattle.bm_words.specs.Form.{Named}
use Rattle.bm_cli.specs.declared.fault.StageFault.{StageFault}
use Rattle.bm_cli.specs.declared.mode.Mode.{Mode}
use Rattle.bm_cli.specs.declared.status.Status.{Status}
use Rattle.bm_cli.specs.declared.status.Status.TheVariants.{Done, ReadFault, Memory}
use Rattle.bm_cli.specs.Dues.{names_after}
use Rattle.bm_cli.specs.Ends.{AsksFor}
use Rattle.bm_cli.specs.Lines.{fault_status}
use Rattle.bm_cli.specs.Reading.{Reading, Reads, reading, script_by}
use Rattle.bm_cli.specs.Statuses.{FilesDid}

-- the files failed, or memory was refused; this may happen at any place
abbrev pub IsOutside : StageFault → Type 0
IsOutside fault = (fault_status fault ≡ ReadFault) ⊎ (fault_status fault ≡ Memory)

-- this was read where that was due
abbrev pub IsRead : {A : Type 0} → Result A StageFault → Result A StageFault → Type 0
IsRead due (Ok x) = due ≡ Ok x
IsRead due (Err fault) = IsOutside fault ⊎ (due ≡ Err fault)

-- the status of what was read
abbrev pub status_by : {A : Type 0} → Result A StageFault → Status
status_by (Ok x) = Done
status_by (Err fault) = fault_status fault

-- the stage that is due was read, or its fault, and the files were asked for its names
pub record ReadsStage (mode : Mode) (names : Named) (reads : Reads) (files : FilesDid)
    (result : Reading) : Type 0 where
  pub read : IsRead (reading mode names reads) result
  pub asks : AsksFor (names_after names (script_by mode reads names.script)) (status_by result)
      files

-- the script of this name was read, or its fault, and the files were asked for this name
pub record ReadsNamed (name : List ℕ) (reads : Reads) (files : FilesDid)
    (result : Result Script StageFault) : Type 0 where
  pub read : IsRead (reads.script name) result
  pub asks : AsksFor (name ∷ []) (status_by result) files
