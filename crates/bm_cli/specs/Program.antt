-- What a program promises of a call, by what is due.
use Rattle.std.specs.Prelude.{◌≡◌, ◌≢◌, ◌⊎◌, ℕ, ◌≤◌, List, Option, None, IsSome}
use Rattle.std.specs.Io.KnownBytes.{Appends}
use Rattle.bm_io.specs.Causes.{Rose}
use Rattle.bm_cli.specs.Dues.{Due}
use Rattle.bm_cli.specs.Ends.{EndsWith}
use Rattle.bm_cli.specs.Headline.{Shows}
use Rattle.bm_cli.specs.Lines.{FaultLines, IsReadLine}
use Rattle.bm_cli.specs.Names.{AsksAll, AsksPrefix}
use Rattle.bm_cli.specs.Reading.{Holds, Octets, Reads}
use Rattle.bm_cli.specs.Statuses.{FilesDid, SinkDid}
use Rattle.bm_cli.specs.Top.{DeniesAnswer, IsAccepted, IsStatusOf, RefusesAnswer, WarnsAnswer}
use Rattle.bm_cli.specs.Top.{WritesSome}

-- a program, whose words are of the forms A
pub record Program (A : Type 0) : Type 1 where
  -- what is due for the words, by what is read
  pub due : Option A → Reads → Due
  -- the lines of faults
  pub lines : Option A → FaultLines
  -- what is written for words of no form
  pub usage : List ℕ
  -- just the script's name, if the words have one
  pub scripts : Option A → List (List ℕ)
  -- the greatest exit status
  pub greatest : ℕ

-- What a call promises, for words of this form, by the files' octets where these are known, by what
-- it did to the files and to the sink, and by the exit status.
pub record IsProgram {A : Type 0} (program : Program A) (form : Option A) (told : Octets)
    (files : FilesDid) (sink : SinkDid) (code : ℕ) : Type 0 where
  -- how the call ended, by what was due; all that stands below follows from it
  pub ends : Holds told (λ reads.
      EndsWith (program.lines form) (program.due form reads) files sink code)
  -- the status is the one that is due, unless the files or the sink failed, or memory was refused
  pub status : Holds told (λ reads. IsStatusOf (program.lines form) (program.due form reads) code)
  -- an accepted call is answered, unless the files or the sink failed, or memory was refused
  pub complete : IsAccepted (program.lines form) (program.due form) told →
      (code ≡ 0) ⊎ (code ≡ 6) ⊎ Rose files.faults files.later ⊎ Rose sink.faults sink.later
  pub known : code ≤ program.greatest
  pub misused : code ≡ 1 → form ≡ None
  pub named : code ≡ 2 → IsSome form
  pub read : code ≡ 2 → Rose files.faults files.later
  -- if the files failed the status is 2, unless the sink failed too, or memory was refused
  pub unfailed : code ≢ 2 → code ≢ 5 → code ≢ 6 → files.later ≡ files.faults
  -- the status is 5 exactly if the sink failed
  pub write : code ≡ 5 → Rose sink.faults sink.later
  pub kept : code ≢ 5 → sink.later ≡ sink.faults
  -- with any status but 0, what was written is the line of that status, whatever the files contain,
  -- or a first part of the text that was due
  pub usage_line : code ≡ 1 → Appends sink.before sink.now program.usage
  pub read_line : code ≡ 2 → Shows (IsReadLine (program.lines form)) sink.before sink.now
  pub line : (code ≡ 3) ⊎ (code ≡ 4) ⊎ (code ≡ 7) →
      Holds told (λ reads.
      RefusesAnswer (program.lines form) (program.due form reads).answer code sink.before sink.now)
  pub denied : code ≡ 8 →
      Holds told (λ reads. DeniesAnswer (program.due form reads).answer sink.before sink.now)
  pub exceeded : code ≡ 9 →
      Holds told (λ reads. WarnsAnswer (program.due form reads).answer sink.before sink.now)
  pub part : (code ≡ 5) ⊎ (code ≡ 6) →
      Holds told (λ reads. WritesSome (program.lines form) (program.due form reads) files sink)
  -- the files are asked for the names that are due, in order, each at most once: none after a file
  -- that failed, and one at a time, since as many sources are open at each as at the others
  pub asked : Holds told
      (λ reads. (held : ℕ) × AsksPrefix held files (program.due form reads).names)
  -- they were asked for all of them, unless the files or the sink failed, or memory was refused
  pub all : code ≢ 2 → code ≢ 5 → code ≢ 6 →
      Holds told (λ reads. (held : ℕ) × AsksAll held files (program.due form reads).names)
  -- after a fault of the script they were asked for its name alone, whatever they contain
  pub script : code ≡ 4 → (held : ℕ) × AsksAll held files (program.scripts form)
