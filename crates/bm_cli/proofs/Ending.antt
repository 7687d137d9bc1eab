-- How a call ends, by what was read and what was written.
use Rattle.std.proofs.Common.{◌≡◌, ◌≢◌, inl, inr, ℕ, List, [], Option, Some, None, Ok, Err}
use Rattle.std.proofs.Common.{sym, subst, ◌∙◌, refl}
use Rattle.bm_core.specs.declared.events.Stage.{Stage}
use Rattle.bm_io.specs.declared.opening.Opening.{Opening}
use Rattle.bm_words.specs.Form.{Asked, Load, Named}
use Rattle.bm_pcap.specs.declared.fault.CaptureFault.TheVariants.{Memory as NoMemory}
use Rattle.bm_cli.specs.declared.fault.StageFault.{StageFault}
use Rattle.bm_cli.specs.declared.fault.StageFault.TheVariants.{Memory as WantsMemory}
use Rattle.bm_cli.specs.declared.status.Status.{Status}
use Rattle.bm_cli.specs.declared.status.Status.TheVariants.{Done, Usage, ReadFault, Memory}
use Rattle.bm_cli.specs.Dues.{Answer, Due, Misused, Refused, Shown, answer_for, due, due_of_stage, names_after}
use Rattle.bm_cli.specs.declared.mode.Mode.{Mode}
use Rattle.bm_cli.specs.Headline.{IsReportOf}
use Rattle.bm_cli.specs.Dues.{IsDue}
use Rattle.bm_cli.specs.Ends.{AsksFor, Ends, IsOf, IsSaid}
use Rattle.bm_cli.specs.Stages.{IsOutside, IsRead}
use Rattle.bm_cli.specs.Stages.{ReadsStage, status_by}
use Rattle.bm_cli.specs.Telling.{Tells}
use Rattle.bm_cli.specs.Loads.{IsSummaryOf}
use Rattle.bm_cli.specs.Lines.{FaultLines, beamer_lines, usage_line}
use Rattle.bm_cli.specs.Reading.{Holds, Octets, Reading, Reads, reading, reads_of, script_by}
use Rattle.bm_cli.specs.Statuses.{FilesDid, SinkDid}
use Rattle.bm_cli.proofs.Faults.{IsSilent, beamer_silent}
use Rattle.bm_cli.proofs.Names.{adds_nothing, asks_nothing}
use Rattle.bm_cli.proofs.Telling.{untouched, writes_nothing}

-- SOME READS

pub holds_more : (told : Octets) (fact more : Reads → Type 0) → ((reads : Reads) → fact reads → more reads) →
    Holds told fact → Holds told more
holds_more told fact more by h = record { reads = h.reads; known = h.known; holds = by h.reads h.holds }

abbrev pub nothing : Reads
nothing = record {
  script = λ name. Err WantsMemory;
  verbs = λ name. [];
  capture = λ name vips. Err NoMemory;
  began = λ name. 0;
  trace = λ name. None;
}

pub holds_any : (told : Octets) (fact : Reads → Type 0) → ((reads : Reads) → fact reads) → Holds told fact
holds_any None fact any = record { reads = nothing; known = tt; holds = any nothing }
holds_any (Some octets) fact any = record { reads = reads_of octets; known = refl; holds = any (reads_of octets) }

-- A STAGE

-- a fault from outside may be answered in place of anything
pub said_outside : (lines : FaultLines) → IsSilent lines →
    (answer : Answer) (fault : StageFault) (says : Status) (text : List ℕ) → IsOutside fault →
    IsOf lines (Refused fault) says text → IsSaid lines answer says text
said_outside lines silent answer fault says text outside (inr none) = inl (inr none)
said_outside lines silent answer fault says text (inl is) (inl said) = inr (said.0 ∙ is, (fault, is, said.1))
said_outside lines silent answer fault says text (inr is) (inl said) =
    inl (inr (said.0 ∙ is, silent fault text is said.1))

-- what was read is answered as what is due
pub said_stage : (lines : FaultLines) → IsSilent lines → (is : Stage → List ℕ →
    Type 0) (due r : Reading) (says : Status) (text : List ℕ) → IsRead due r →
    IsOf lines (answer_for is r) says text → IsSaid lines (answer_for is due) says text
said_stage lines silent is due (Ok stage) says text read said =
    subst (λ (d : Reading). IsSaid lines (answer_for is d) says text) (sym read) (inl said)
said_stage lines silent is due (Err fault) says text (inl outside) said =
    said_outside lines silent (answer_for is due) fault says text outside said
said_stage lines silent is due (Err fault) says text (inr read) said =
    subst (λ (d : Reading). IsSaid lines (answer_for is d) says text) (sym read) (inl said)

-- the status that was answered is that of what was read, or want of memory
pub says_read : (lines : FaultLines) (is : Stage → List ℕ → Type 0) (r : Reading) (says : Status) (text : List ℕ) →
    IsOf lines (answer_for is r) says text → says ≢ Memory → says ≡ status_by r
says_read lines is r says text (inr none) memory = absurd (memory none.0)
says_read lines is (Ok stage) says text (inl said) memory = said.0
says_read lines is (Err fault) says text (inl said) memory = said.0

not_memory : (says : Status) → says ≡ ReadFault → says ≢ Memory
not_memory says e = λ is. let no : ReadFault ≡ Memory = sym e ∙ is in cc

pub asks_as : (names : List (List ℕ)) (files : FilesDid) (by says : Status) →
    AsksFor names by files → (says ≢ Memory → says ≡ by) → AsksFor names says files
asks_as names files by says asks is = record {
  held = asks.held;
  some = asks.some;
  all = λ read memory. asks.all (λ e. read (is memory ∙ e)) (λ e. memory (is memory ∙ e));
  rose = λ e. asks.rose (sym (is (not_memory says e)) ∙ e);
  kept = λ read memory. asks.kept (λ e. read (is memory ∙ e)) (λ e. memory (is memory ∙ e));
  opens = λ e. asks.opens (sym (is (not_memory says e)) ∙ e);
}

-- of an answer that says neither that a read failed nor that memory was refused
pub asks_unread : (names : List (List ℕ)) (files : FilesDid) (says : Status) → AsksFor names Done files →
    says ≢ ReadFault → AsksFor names says files
asks_unread names files says asks unread = record {
  held = asks.held;
  some = asks.some;
  all = λ read memory. asks.all (λ e. cc) (λ e. cc);
  rose = λ e. absurd (unread e);
  kept = λ read memory. asks.kept (λ e. cc) (λ e. cc);
  opens = λ e. absurd (unread e);
}

-- what was read of a stage was answered
pub ends_stage : (lines : FaultLines) → IsSilent lines → (mode : Mode) (is : Stage → List ℕ →
    Type 0) (names : Named) (reads : Reads) (files : FilesDid)
    (sink : SinkDid) (r : Reading) (result : Status) → ReadsStage mode names reads files r →
    Tells lines (answer_for is r) sink result → Ends lines (due_of_stage mode is names reads) files sink result
ends_stage lines silent mode is names reads files sink r result read tells = record {
  says = tells.says;
  text = tells.text;
  said = said_stage lines silent is (reading mode names reads) r tells.says tells.text read.read tells.is;
  writes = tells.writes;
  asks =
      asks_as (names_after names (script_by mode reads names.script)) files (status_by r) tells.says read.asks
      (says_read lines is r tells.says tells.text tells.is);
}

pub play_ends : (mode : Mode) (names : Named) (told : Octets) (files : FilesDid)
    (sink : SinkDid) (r : Reading) (result : Status) →
    Holds told (λ reads. ReadsStage mode names reads files r) →
    Tells beamer_lines (answer_for (IsReportOf mode) r) sink result →
    Holds told (λ reads. Ends beamer_lines (due_of_stage mode (IsReportOf mode) names reads) files sink result)
play_ends mode names told files sink r result read tells =
    holds_more told (λ reads. ReadsStage mode names reads files r)
    (λ reads. Ends beamer_lines (due_of_stage mode (IsReportOf mode) names reads) files sink result)
    (λ reads stage. ends_stage beamer_lines beamer_silent mode
    (IsReportOf mode) names reads files sink r result stage tells) read

-- NO FILE IS READ

-- memory was refused before anything was done
pub ends_nothing : (lines : FaultLines) (due : Due) (asked : Option (List Opening)) (fails : ℕ) (before : Option
    (List ℕ))
    (faults : ℕ) →
    Ends lines due (untouched asked fails) (untouched before faults) Memory
ends_nothing lines due asked fails before faults = record {
  says = Memory;
  text = [];
  said = inl (inr (refl, refl));
  writes = writes_nothing before faults;
  asks = record {
    held = 0;
    some = asks_nothing 0 (untouched asked fails) due.names refl;
    all = λ read memory. absurd (memory refl);
    rose = λ e. absurd (cc);
    kept = λ read memory. refl;
    opens = λ e. absurd (cc);
  };
}

-- no status that is due says that a read failed
abbrev pub IsUnread : FaultLines → Answer → Type 0
IsUnread lines answer = (says : Status) (text : List ℕ) → IsDue lines answer says text → says ≢ ReadFault

-- an answer that asks for no file was written
pub ends_unread : (lines : FaultLines) (answer : Answer) (asked : Option (List Opening)) (fails : ℕ) (sink : SinkDid)
    (result : Status) → IsUnread lines answer → Tells lines answer sink result →
    Ends lines (record { names = []; answer = answer }) (untouched asked fails) sink result
ends_unread lines answer asked fails sink result not tells = record {
  says = tells.says;
  text = tells.text;
  said = inl tells.is;
  writes = tells.writes;
  asks = record {
    held = 0;
    some = asks_nothing 0 (untouched asked fails) [] refl;
    all = λ read memory. adds_nothing asked;
    rose = λ e. absurd (unread tells.is e);
    kept = λ read memory. refl;
    opens = λ e. absurd (unread tells.is e);
  };
}
  where
    unread : IsOf lines answer tells.says tells.text → tells.says ≢ ReadFault
    unread (inl said) = not tells.says tells.text said
    unread (inr none) = λ e. let no : Memory ≡ ReadFault = sym none.0 ∙ e in cc

-- the same, by some reads
pub unread_ends : (lines : FaultLines) (answer : Answer) (told : Octets) (asked : Option (List Opening)) (fails : ℕ)
    (sink : SinkDid)
    (result : Status) → IsUnread lines answer → Tells lines answer sink result →
    Holds told (λ reads. Ends lines (record { names = []; answer = answer }) (untouched asked fails) sink result)
unread_ends lines answer told asked fails sink result not tells =
    holds_any told (λ reads. Ends lines (record { names = []; answer = answer }) (untouched asked fails) sink result)
    (λ reads. ends_unread lines answer asked fails sink result not tells)

-- THE WORDS

-- what the words ask for was answered
pub words_end : (form : Option Asked) (words : Option Asked) (told : Octets) (files : FilesDid)
    (sink : SinkDid) (result : Status) → form ≡ words →
    Holds told (λ reads. Ends beamer_lines (due form reads) files sink result) →
    Holds told (λ reads. Ends beamer_lines (due words reads) files sink result)
words_end form words told files sink result same ends =
    subst (λ f. Holds told (λ reads. Ends beamer_lines (due f reads) files sink result)) same ends

pub usage_ends : (words : Option Asked) (told : Octets) (asked : Option (List Opening)) (fails : ℕ)
    (sink : SinkDid) (result : Status) → None ≡ words → Tells beamer_lines (Misused usage_line) sink result →
    Holds told (λ reads. Ends beamer_lines (due words reads) (untouched asked fails) sink result)
usage_ends words told asked fails sink result none tells =
    words_end None words told (untouched asked fails) sink result none
    (unread_ends beamer_lines (Misused usage_line) told asked fails sink result
    (λ says text is e. let no : ReadFault ≡ Usage = sym e ∙ is.0 in cc) tells)

-- the line of a load was answered
pub load_ends : (n : ℕ) (told : Octets) (asked : Option (List Opening)) (fails : ℕ) (sink : SinkDid)
    (result : Status) → Tells beamer_lines (Shown (IsSummaryOf n)) sink result →
    Holds told (λ reads. Ends beamer_lines (due (Some (Load n)) reads) (untouched asked fails) sink result)
load_ends n told asked fails sink result tells =
    unread_ends beamer_lines (Shown (IsSummaryOf n)) told asked fails sink result
    (λ says text is e. let no : ReadFault ≡ Done = sym e ∙ is.0 in cc) tells

pub memory_ends : (words : Option Asked) (told : Octets) (asked : Option (List Opening)) (fails : ℕ)
    (before : Option (List ℕ)) (faults : ℕ) →
    Holds told (λ reads. Ends beamer_lines (due words reads) (untouched asked fails) (untouched before faults) Memory)
memory_ends words told asked fails before faults =
    holds_any told (λ reads. Ends beamer_lines (due words reads) (untouched asked fails)
    (untouched before faults) Memory)
    (λ reads. ends_nothing beamer_lines (due words reads) asked fails before faults)
