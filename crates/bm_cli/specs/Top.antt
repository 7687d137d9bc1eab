-- What a program does, by its exit status. Faults are told by these lines.
use Rattle.std.specs.Prelude.{◌≡◌, ◌⊎◌, ◌≢◌, [], ◌∷◌, ℕ, List, Option, Some, None}
use Rattle.std.specs.Io.KnownBytes.{Appends}
use Rattle.bm_io.specs.Causes.{Rose}
use Rattle.bm_check.specs.declared.answer.Answer.{Answer as Checked}
use Rattle.bm_check.specs.declared.answer.Answer.TheVariants.{Yes}
use Rattle.bm_words.specs.Form.{Asked, Check, Load, Replay, Run, Streams}
use Rattle.bm_cli.specs.Checks.{checked_line, checked_status}
use Rattle.bm_cli.specs.declared.status.Status.{Status}
use Rattle.bm_cli.specs.declared.status.Status.TheVariants.{Denied, Done}
use Rattle.bm_cli.specs.Dues.{Answer, Misused, Refused, Shown, Warned, Judged, Due, IsDue}
use Rattle.bm_cli.specs.Headline.{Shows}
use Rattle.bm_cli.specs.Lines.{FaultLines, IsReadLine, fault_status}
use Rattle.bm_cli.specs.Names.{script_names}
use Rattle.bm_cli.specs.Reading.{Known, Octets, Reads}
use Rattle.bm_cli.specs.Statuses.{WritesLess, code_of, FilesDid, SinkDid}

-- a text is due that isn't the line of a fault, or the answer yes of a check; and it was written
abbrev pub ShowsAnswer : Answer → Option (List ℕ) → Option (List ℕ) → Type 0
ShowsAnswer (Misused line) before now = ⊥
ShowsAnswer (Refused fault) before now = ⊥
ShowsAnswer (Shown is) before now = Shows is before now
ShowsAnswer (Warned text) before now = ⊥
ShowsAnswer (Judged is) before now =
    (e : ℕ) × is (Yes e) × Appends before now (checked_line (Yes e))

-- a fault with this exit status is due, and its line was written
abbrev pub RefusesAnswer : FaultLines → Answer → ℕ → Option (List ℕ) → Option (List ℕ) → Type 0
RefusesAnswer lines (Misused line) code before now = ⊥
RefusesAnswer lines (Refused fault) code before now =
    (code ≡ code_of (fault_status fault)) × Shows (lines fault) before now
RefusesAnswer lines (Shown is) code before now = ⊥
RefusesAnswer lines (Warned text) code before now = ⊥
RefusesAnswer lines (Judged is) code before now = ⊥

-- an answer of a check that isn't yes is due, and its line was written
abbrev pub DeniesAnswer : Answer → Option (List ℕ) → Option (List ℕ) → Type 0
DeniesAnswer (Judged is) before now =
    (a : Checked) × is a × (checked_status a ≡ Denied) × Appends before now (checked_line a)
DeniesAnswer _ before now = ⊥

-- a text is due that says that the words ask about more than the script allows, and it was written
abbrev pub WarnsAnswer : Answer → Option (List ℕ) → Option (List ℕ) → Type 0
WarnsAnswer (Warned text) before now = Appends before now text
WarnsAnswer _ before now = ⊥

-- the exit status is one that is due
abbrev pub IsCodeOf : FaultLines → Answer → ℕ → Type 0
IsCodeOf lines answer code =
    (says : Status) × (text : List ℕ) × IsDue lines answer says text × (code ≡ code_of says)

-- the same, unless the files (if one is asked for) or the sink failed, or memory was refused
abbrev pub IsStatusOf : FaultLines → Due → ℕ → Type 0
IsStatusOf lines due code =
    IsCodeOf lines due.answer code ⊎ ((code ≡ 2) × (due.names ≢ [])) ⊎ (code ≡ 5) ⊎ (code ≡ 6)

-- whatever is read, no file is asked for
abbrev pub AsksNone : (Reads → Due) → Type 0
AsksNone due = (reads : Reads) → (due reads).names ≡ []

-- for whatever may be read, or what the files' octets give if these are known, the text that is due
-- isn't the line of a fault or of misuse, nor of a check that doesn't answer yes, nor one that says
-- that the words ask about more than the script allows
abbrev pub IsAccepted : FaultLines → (Reads → Due) → Octets → Type 0
IsAccepted lines due told =
    (reads : Reads) → Known told reads → (says : Status) (text : List ℕ)
    → IsDue lines (due reads).answer says text → says ≡ Done

-- nothing was written, or only a first part of the text that is due, or of the line of a read that
-- failed
pub record WritesSome (lines : FaultLines) (due : Due) (files : FilesDid) (sink : SinkDid)
    : Type 0 where
  pub text : List ℕ
  pub is :
      (text ≡ []) ⊎
      (IsReadLine lines text × Rose files.faults files.later × (due.names ≢ [])) ⊎
      ((says : Status) × IsDue lines due.answer says text)
  pub less : WritesLess sink text

-- just the script's name, if the words have one
abbrev pub scripts_in : Option Asked → List (List ℕ)
scripts_in None = []
scripts_in (Some (Replay names)) = script_names names.script
scripts_in (Some (Run capture script)) = script ∷ []
scripts_in (Some (Streams names)) = script_names names.script
scripts_in (Some (Check trace capture script)) = script ∷ []
scripts_in (Some (Load n)) = []
