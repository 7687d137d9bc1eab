-- How the program ends, and what a call did to its sink and to its files.
use Rattle.std.specs.Prelude.{◌≡◌, ◌≢◌, ℕ, ◌≤◌, ◌⊎◌, List, [], Option}
use Rattle.std.specs.Io.KnownBytes.{Appends}
use Rattle.bm_io.specs.Causes.{Rose}
use Rattle.bm_io.specs.Written.{WritesPart}
use Rattle.bm_io.specs.declared.opening.Opening.{Opening}
use Rattle.bm_cli.specs.declared.status.Status.{Status}
use Rattle.bm_cli.specs.declared.status.Status.TheVariants.{Done, Usage, ReadFault, BadCapture}
use Rattle.bm_cli.specs.declared.status.Status.TheVariants.{BadScript, WriteFault, Memory, Limit, Denied}
use Rattle.bm_cli.specs.declared.status.Status.TheVariants.{Exceeded}

-- the exit status
abbrev pub code_of : Status → ℕ
code_of Done = 0
code_of Usage = 1
code_of ReadFault = 2
code_of BadCapture = 3
code_of BadScript = 4
code_of WriteFault = 5
code_of Memory = 6
code_of Limit = 7
code_of Denied = 8
code_of Exceeded = 9

-- What a call did to a sink, or to files: what is known of their content before and after it, and
-- how often they had failed.
pub record Did (A : Type 0) : Type 0 where
  pub before : Option A
  pub now : Option A
  pub faults : ℕ
  pub later : ℕ

abbrev pub FilesDid : Type 0
FilesDid = Did (List Opening)

abbrev pub SinkDid : Type 0
SinkDid = Did (List ℕ)

-- the same, from what is known of their content and how their failures are counted
abbrev pub did : {S A : Type 0} → (S → Option A) → (S → ℕ) → S → S → Did A
did told faults old new =
    record { before = told old; now = told new; faults = faults old; later = faults new }

-- nothing was written, or only a first part of the text
abbrev pub WritesLess : SinkDid → List ℕ → Type 0
WritesLess sink text = Appends sink.before sink.now [] ⊎ WritesPart sink.before sink.now text

-- The text was written, and the status is this; or less than the text was, because the sink failed
-- or memory was refused.
pub record Writes (says : Status) (text : List ℕ) (sink : SinkDid) (result : Status) : Type 0 where
  pub count : sink.faults ≤ sink.later
  pub ends : (result ≡ says) ⊎ (result ≡ WriteFault) ⊎ (result ≡ Memory)
  pub whole : result ≡ says → Appends sink.before sink.now text
  pub less : (result ≡ WriteFault) ⊎ (result ≡ Memory) → WritesLess sink text
  pub cause : result ≡ WriteFault → Rose sink.faults sink.later
  pub kept : result ≢ WriteFault → sink.later ≡ sink.faults
