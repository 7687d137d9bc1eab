-- A script that is read alone, by its name: what was read, what is due, and how the call ends.
use Rattle.std.proofs.Common.{◌≡◌, ◌≢◌, ◌⊎◌, inl, inr, ℕ, List, [], ◌∷◌, None, Some, Result, Ok, Err, IfErr, IsErrAnd}
use Rattle.std.proofs.Common.{refl, sym, subst, ◌∙◌}
use Rattle.bm_io.specs.Causes.{Rose}
use Rattle.bm_table.specs.declared.script.Script.{Script}
use Rattle.bm_cli.specs.declared.fault.StageFault.{StageFault}
use Rattle.bm_cli.specs.declared.status.Status.{Status}
use Rattle.bm_cli.specs.declared.status.Status.TheVariants.{Memory, ReadFault}
use Rattle.bm_cli.specs.Dues.{Answer, answer_by, due_of_script}
use Rattle.bm_cli.specs.Ends.{AsksFor, Ends, IsOf, IsSaid}
use Rattle.bm_cli.specs.Inside.Scripts.{ReadsScript}
use Rattle.bm_cli.specs.Lines.{FaultLines, fault_status}
use Rattle.bm_cli.specs.Names.{AsksAll, AsksPrefix}
use Rattle.bm_cli.specs.Reading.{Holds, Octets, reads_of}
use Rattle.bm_cli.specs.Stages.{IsOutside, IsRead, ReadsNamed, status_by}
use Rattle.bm_cli.specs.Statuses.{FilesDid, SinkDid}
use Rattle.bm_cli.specs.Telling.{Tells}
use Rattle.bm_cli.proofs.Ending.{IsUnread, asks_as, asks_unread, holds_more, nothing, said_outside}
use Rattle.bm_cli.proofs.Faults.{IsSilent}

-- WHAT WAS READ

read_self : (r : Result Script StageFault) → IsRead r r
read_self (Ok script) = refl
read_self (Err fault) = inr refl

-- by some reads, which are those of the files where their octets are known
some_read : (told : Octets) (name : List ℕ) (r : Result Script StageFault) → ReadsScript told (Some name) r →
    Holds told (λ reads. IsRead (reads.script name) r)
some_read None name r read = record {
  reads = record nothing { script = λ name. r };
  known = tt;
  holds = read_self r;
}
some_read (Some octets) name r read = record { reads = reads_of octets; known = refl; holds = read }

-- the name was asked for, unless a read failed or memory was refused
all_asked : (r : Result Script StageFault) (asks : Type 0) → IsErrAnd r IsOutside ⊎ asks →
    status_by r ≢ ReadFault → status_by r ≢ Memory → asks
all_asked r asks (inr all) read memory = all
all_asked (Ok script) asks (inl none) read memory = absurd none
all_asked (Err fault) asks (inl (inl e)) read memory = absurd (read e)
all_asked (Err fault) asks (inl (inr e)) read memory = absurd (memory e)

-- whether a read failed
rose_of : (r : Result Script StageFault) (rose : Type 0) → IfErr r (λ fault. fault_status fault ≡ ReadFault → rose) →
    status_by r ≡ ReadFault → rose
rose_of (Ok script) rose cause e = absurd (cc)
rose_of (Err fault) rose cause e = cause e

kept_of : (r : Result Script StageFault) (kept : Type 0) →
    IsErrAnd r (λ fault. fault_status fault ≡ ReadFault) ⊎ kept → status_by r ≢ ReadFault → kept
kept_of r kept (inr same) read = same
kept_of (Ok script) kept (inl none) read = absurd none
kept_of (Err fault) kept (inl e) read = absurd (read e)

pub named_read : (told : Octets) (name : List ℕ) (held : ℕ) (files : FilesDid) (r : Result Script StageFault) →
    ReadsScript told (Some name) r → AsksPrefix held files (name ∷ []) →
    IsErrAnd r IsOutside ⊎ AsksAll held files (name ∷ []) →
    IfErr r (λ fault. fault_status fault ≡ ReadFault → Rose files.faults files.later) →
    IsErrAnd r (λ fault. fault_status fault ≡ ReadFault) ⊎ (files.later ≡ files.faults) →
    Holds told (λ reads. ReadsNamed name reads files r)
named_read told name held files r read part all cause kept =
    holds_more told (λ reads. IsRead (reads.script name) r) (λ reads. ReadsNamed name reads files r)
    (λ reads is. record {
      read = is;
      asks = record {
        held = held;
        some = part;
        all = λ not memory. all_asked r (AsksAll held files (name ∷ [])) all not memory;
        rose = λ e. rose_of r (Rose files.faults files.later) cause e;
        kept = λ not memory. kept_of r (files.later ≡ files.faults) kept not;
        opens = λ e is. cc;
      };
    })
    (some_read told name r read)

-- HOW THE CALL ENDS

said_script : (lines : FaultLines) → IsSilent lines → (of : Script →
    Answer) (due r : Result Script StageFault) (says : Status) (text : List ℕ) →
    IsRead due r → IsOf lines (answer_by of r) says text → IsSaid lines (answer_by of due) says text
said_script lines silent of due (Ok script) says text read said =
    subst (λ (d : Result Script StageFault). IsSaid lines (answer_by of d) says text) (sym read) (inl said)
said_script lines silent of due (Err fault) says text (inl outside) said =
    said_outside lines silent (answer_by of due) fault says text outside said
said_script lines silent of due (Err fault) says text (inr read) said =
    subst (λ (d : Result Script StageFault). IsSaid lines (answer_by of d) says text) (sym read) (inl said)

asks_script : (lines : FaultLines) (of : Script → Answer) → ((script : Script) → IsUnread lines (of script)) →
    (r : Result Script StageFault)
    (names : List (List ℕ)) (files : FilesDid) (says : Status) (text : List ℕ) → AsksFor names (status_by r) files →
    IsOf lines (answer_by of r) says text → AsksFor names says files
asks_script lines of not (Ok script) names files says text asks (inl due) =
    asks_unread names files says asks (not script says text due)
asks_script lines of not (Ok script) names files says text asks (inr none) =
    asks_unread names files says asks (λ e. let no : Memory ≡ ReadFault = sym none.0 ∙ e in cc)
asks_script lines of not (Err fault) names files says text asks (inl due) =
    asks_as names files (fault_status fault) says asks (λ memory. due.0)
asks_script lines of not (Err fault) names files says text asks (inr none) =
    asks_as names files (fault_status fault) says asks (λ memory. absurd (memory none.0))

-- what was read of a script was answered
pub script_ends : (lines : FaultLines) → IsSilent lines → (of : Script → Answer) → ((script : Script) →
    IsUnread lines (of script)) → (name : List ℕ)
    (told : Octets) (files : FilesDid) (sink : SinkDid) (r : Result Script StageFault) (result : Status) →
    Holds told (λ reads. ReadsNamed name reads files r) → Tells lines (answer_by of r) sink result →
    Holds told (λ reads. Ends lines (due_of_script of name reads) files sink result)
script_ends lines silent of not name told files sink r result read tells =
    holds_more told (λ reads. ReadsNamed name reads files r)
    (λ reads. Ends lines (due_of_script of name reads) files sink result)
    (λ reads h. record {
      says = tells.says;
      text = tells.text;
      said = said_script lines silent of (reads.script name) r tells.says tells.text h.read tells.is;
      writes = tells.writes;
      asks = asks_script lines of not r (name ∷ []) files tells.says tells.text h.asks tells.is;
    }) read
