-- How a call ended, by what was due. Faults are told by these lines.
use Rattle.std.specs.Prelude.{◌≡◌, ◌≢◌, ◌⊎◌, [], ℕ, List}
use Rattle.bm_io.specs.Causes.{Rose}
use Rattle.bm_cli.specs.declared.status.Status.{Status}
use Rattle.bm_cli.specs.declared.status.Status.TheVariants.{ReadFault, Memory}
use Rattle.bm_cli.specs.Dues.{Answer, Due, IsDue}
use Rattle.bm_cli.specs.Lines.{FaultLines, IsReadLine}
use Rattle.bm_cli.specs.Names.{AsksAll, AsksPrefix}
use Rattle.bm_cli.specs.Statuses.{Writes, code_of, FilesDid, SinkDid}

-- the status and the text that are due; or nothing, because memory was refused
abbrev pub IsOf : FaultLines → Answer → Status → List ℕ → Type 0
IsOf lines answer says text = IsDue lines answer says text ⊎ ((says ≡ Memory) × (text ≡ []))

-- the same, or the line of a read that failed
abbrev pub IsSaid : FaultLines → Answer → Status → List ℕ → Type 0
IsSaid lines answer says text =
    IsOf lines answer says text ⊎ ((says ≡ ReadFault) × IsReadLine lines text)

-- What the files were asked for, by the names that are due and by the status.
pub record AsksFor (names : List (List ℕ)) (says : Status) (files : FilesDid) : Type 0 where
  -- how many sources were open at each name, so that no two of them were open at a time
  pub held : ℕ
  -- the names in order: all of them, unless a read failed or memory was refused
  pub some : AsksPrefix held files names
  pub all : says ≢ ReadFault → says ≢ Memory → AsksAll held files names
  -- if the status says that a read failed, one did, and there was a file to read
  pub rose : says ≡ ReadFault → Rose files.faults files.later
  -- otherwise none failed, unless memory was refused
  pub kept : says ≢ ReadFault → says ≢ Memory → files.later ≡ files.faults
  pub opens : says ≡ ReadFault → names ≢ []

-- How a call ended.
pub record Ends (lines : FaultLines) (due : Due) (files : FilesDid) (sink : SinkDid)
    (result : Status) : Type 0 where
  -- the status and the text that were to be answered
  pub says : Status
  pub text : List ℕ
  pub said : IsSaid lines due.answer says text
  pub writes : Writes says text sink result
  pub asks : AsksFor due.names says files

-- the same, by the exit status
pub record EndsWith (lines : FaultLines) (due : Due) (files : FilesDid) (sink : SinkDid) (code : ℕ)
    : Type 0 where
  pub status : Status
  pub is : code ≡ code_of status
  pub ends : Ends lines due files sink status
