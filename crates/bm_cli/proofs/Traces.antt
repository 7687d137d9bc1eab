-- The check of a trace: what is due, what was read, and how the call ends.
use Rattle.std.proofs.Common.{◌≡◌, ◌≢◌, ◌⊎◌, inl, inr, ℕ, ◌≤◌, List, [], ◌∷◌, ◌++◌, Option, Some, None, Result, Ok, Err}
use Rattle.std.proofs.Common.{IfErr, IsErrAnd, length, sym, ap, subst, ◌<◌, ◌∙◌, refl}
use Rattle.std.proofs.lemmas.List.{append-nil}
use Rattle.std.specs.Result.{result_map_both}
use Rattle.bm_base.specs.declared.capture.Vip.{Vip}
use Rattle.bm_io.specs.Causes.{Rose}
use Rattle.bm_io.specs.declared.opening.Opening.{Opening}
use Rattle.bm_table.specs.declared.script.Script.{Script}
use Rattle.bm_core.specs.declared.events.Stage.{Stage}
use Rattle.bm_pcap.specs.Capture.{Captured}
use Rattle.bm_cli.specs.declared.fault.StageFault.{StageFault}
use Rattle.bm_cli.specs.declared.fault.StageFault.TheVariants.{LongTrace}
use Rattle.bm_cli.specs.declared.mode.Mode.TheVariants.{Replay}
use Rattle.bm_cli.specs.declared.status.Status.{Status}
use Rattle.bm_cli.specs.declared.status.Status.TheVariants.{BadScript, Exceeded, Usage, ReadFault, Memory}
use Rattle.bm_cli.specs.Dues.{IsDue, answer_of_check, due_of_check, if_short, names_after}
use Rattle.bm_cli.specs.Dues.{trace_names, traced}
use Rattle.bm_cli.specs.Ends.{AsksFor, Ends, IsOf, IsSaid}
use Rattle.bm_cli.specs.Inside.Fronts.{HasFront}
use Rattle.bm_cli.specs.Inside.Traces.{ReadsTrace, ReadsTraceFile, both_named}
use Rattle.bm_cli.specs.Lines.{beamer_lines, fault_status}
use Rattle.bm_cli.specs.Names.{AsksAll, AsksPrefix}
use Rattle.bm_cli.specs.Reading.{Holds, Octets, Reading, Reads, reading, script_by, with_capture, with_script}
use Rattle.bm_cli.specs.Stages.{IsOutside, IsRead, ReadsStage, status_by}
use Rattle.bm_cli.specs.Statuses.{FilesDid, SinkDid}
use Rattle.bm_cli.specs.Telling.{Tells}
use Rattle.bm_cli.proofs.Ending.{asks_as, asks_unread, holds_more, said_outside}
use Rattle.bm_cli.proofs.Fronts.{few, too_many, whole}
use Rattle.bm_cli.proofs.Faults.{beamer_silent, capture_no_script, of_fault}
use Rattle.bm_cli.proofs.Laws.{check_is_not}
use Rattle.bm_cli.proofs.Names.{all_then, asks_more, asks_then, first_of, second_of}
use Rattle.bm_cli.proofs.Stages.{script_named}

-- THE NAMES

append_open : (xs ys : List (List ℕ)) → xs ≢ [] → xs ++ ys ≢ []
append_open [] ys some = absurd (some refl)
append_open (x ∷ xs) ys some = λ e. cc

-- a file is asked for
pub check_open : (trace capture script : List ℕ) (reads : Reads) →
    (due_of_check trace (both_named capture script) reads).names ≢ []
check_open trace capture script reads =
    let r = script_by Replay reads (Some script) in
    append_open (names_after (both_named capture script) r)
    (trace_names (reading Replay (both_named capture script) reads) trace) (script_named capture script r)

-- no usage line is due
usage_of : (r : Result (Stage × List ℕ) StageFault) (text : List ℕ) →
    IsDue beamer_lines (answer_of_check r) Usage text → ⊥
usage_of (Ok read) text due = check_is_not due.0 Usage Usage due.2 refl (λ e. cc) (λ e. cc)
usage_of (Err fault) text due = (of_fault fault).usage (sym due.0)

pub check_usage : (trace capture script : List ℕ) (reads : Reads) (text : List ℕ) →
    IsDue beamer_lines (due_of_check trace (both_named capture script) reads).answer Usage text → ⊥
check_usage trace capture script reads text due =
    usage_of (traced (reading Replay (both_named capture script) reads) (if_short (reads.trace trace))) text due

-- nor a text that says that the words ask about more than the script allows
exceeded_of : (r : Result (Stage × List ℕ) StageFault) (text : List ℕ) →
    IsDue beamer_lines (answer_of_check r) Exceeded text → ⊥
exceeded_of (Ok read) text due = check_is_not due.0 Exceeded Exceeded due.2 refl (λ e. cc) (λ e. cc)
exceeded_of (Err fault) text due = (of_fault fault).exceeded (sym due.0)

pub check_exceeded : (trace capture script : List ℕ) (reads : Reads) (text : List ℕ) →
    IsDue beamer_lines (due_of_check trace (both_named capture script) reads).answer Exceeded text → ⊥
check_exceeded trace capture script reads text due =
    exceeded_of (traced (reading Replay (both_named capture script) reads) (if_short (reads.trace trace))) text due

-- a bad script is due where the script's name alone is
trace_no_script : (stage : Stage) (t : Option (List ℕ)) (text : List ℕ) →
    IsDue beamer_lines (answer_of_check (traced (Ok stage) (if_short t))) BadScript text → ⊥
trace_no_script stage None text due = let no = due.0 in cc
trace_no_script stage (Some trace) text due =
    check_is_not due.0 BadScript BadScript due.2 refl (λ e. cc) (λ e. cc)

capture_no_names : (script : Script) (r : Captured) (t : Option (List ℕ)) (text : List ℕ) →
    IsDue beamer_lines (answer_of_check (traced (with_capture script r) (if_short t))) BadScript text → ⊥
capture_no_names script (Ok read) t text due =
    trace_no_script (record { script = script; capture = read.0 }) t text due
capture_no_names script (Err fault) t text due = capture_no_script fault (sym due.0)

script_names_of : (trace capture script : List ℕ) (r : Result Script StageFault) (c : List Vip → Captured)
    (t : Option (List ℕ)) (text : List ℕ) →
    IsDue beamer_lines (answer_of_check (traced (with_script r c) (if_short t))) BadScript text →
    names_after (both_named capture script) r ++ trace_names (with_script r c) trace ≡ script ∷ []
script_names_of trace capture script (Ok found) c t text due =
    absurd (capture_no_names found (c found.setting.vips) t text due)
script_names_of trace capture script (Err fault) c t text due = refl

pub check_names : (trace capture script : List ℕ) (reads : Reads) (text : List ℕ) →
    IsDue beamer_lines (due_of_check trace (both_named capture script) reads).answer BadScript text →
    (due_of_check trace (both_named capture script) reads).names ≡ script ∷ []
check_names trace capture script reads text due =
    script_names_of trace capture script (script_by Replay reads (Some script)) (reads.capture capture)
    (reads.trace trace) text due

-- WHAT WAS READ

-- a trace that is too long
pub trace_long : (told : Octets) (name text : List ℕ) → HasFront told name 268435457 text → 268435456 < length text →
    ReadsTraceFile told name (Err LongTrace)
trace_long None name text front more = (None, inr refl)
trace_long (Some octets) name text front more = rw (too_many 268435456 (octets name) text front more) (inr refl)

-- a trace that isn't
pub trace_short : (told : Octets) (name text : List ℕ) → HasFront told name 268435457 text → length text ≤ 268435456 →
    ReadsTraceFile told name (Ok text)
trace_short None name text front short = (Some text, refl)
trace_short (Some octets) name text front short =
    rw (few 268435456 (octets name) text front short)
    (ap (λ (t : List ℕ). if_short (Some t)) (sym (whole 268435456 (octets name) text front short)))

-- a fault from outside may come in place of any
pub trace_outside : (told : Octets) (name : List ℕ) (fault : StageFault) → IsOutside fault →
    ReadsTraceFile told name (Err fault)
trace_outside None name fault outside = (None, inl outside)
trace_outside (Some octets) name fault outside = inl outside

-- the stage wasn't read
pub trace_unread : (trace capture script : List ℕ) (told : Octets) (files : FilesDid) (fault : StageFault) →
    Holds told (λ reads. ReadsStage Replay (both_named capture script) reads files (Err fault)) →
    Holds told (λ reads. ReadsTrace trace capture script reads files (Err fault))
trace_unread trace capture script told files fault read =
    holds_more told (λ reads. ReadsStage Replay (both_named capture script) reads files (Err fault))
    (λ reads. ReadsTrace trace capture script reads files (Err fault)) by read
  where
    unread : (r : Reading) (t : Result (List ℕ) StageFault) → IsRead r (Err fault) →
        IsRead (traced r t) (Err fault)
    unread r t (inl outside) = inl outside
    unread r t (inr due) = inr (ap (λ (s : Reading). traced s t) due)

    all : (held : ℕ) (r : Reading) (names : List (List ℕ)) → IsRead r (Err fault) → fault_status fault ≢ ReadFault →
        fault_status fault ≢ Memory → AsksAll held files names →
        AsksAll held files (names ++ trace_names r trace)
    all held r names (inl (inl e)) read memory asks = absurd (read e)
    all held r names (inl (inr e)) read memory asks = absurd (memory e)
    all held r names (inr due) read memory asks =
        subst (AsksAll held files)
        (sym (append-nil names) ∙ ap (λ (s : Reading). names ++ trace_names s trace) (sym due)) asks

    by : (reads : Reads) → ReadsStage Replay (both_named capture script) reads files (Err fault) →
        ReadsTrace trace capture script reads files (Err fault)
    by reads h =
        let r = reading Replay (both_named capture script) reads in
        let names = names_after (both_named capture script) (script_by Replay reads (Some script)) in
        record {
          read = unread r (if_short (reads.trace trace)) h.read;
          asks = record {
            held = h.asks.held;
            some = asks_more h.asks.held files names (trace_names r trace) h.asks.some;
            all = λ read memory. all h.asks.held r names h.read read memory (h.asks.all read memory);
            rose = h.asks.rose;
            kept = h.asks.kept;
            opens = λ e. check_open trace capture script reads;
          };
        }

-- the stage was read, and this of the trace
record Gives (trace capture script : List ℕ) (files : FilesDid) (stage : Stage) (r : Result (List ℕ) StageFault)
    (reads : Reads) : Type 0 where
  pub first : ReadsStage Replay (both_named capture script) reads files (Ok stage)
  pub second : IsRead (if_short (reads.trace trace)) r

-- by some reads, which are those of the files where their octets are known
gives_some : (trace capture script : List ℕ) (told : Octets) (files : FilesDid) (stage : Stage)
    (r : Result (List ℕ) StageFault) →
    Holds told (λ reads. ReadsStage Replay (both_named capture script) reads files (Ok stage)) →
    ReadsTraceFile told trace r → Holds told (Gives trace capture script files stage r)
gives_some trace capture script None files stage r read traces = record {
  reads = record {
    script = read.reads.script;
    verbs = read.reads.verbs;
    capture = read.reads.capture;
    began = read.reads.began;
    trace = λ name. traces.0;
  };
  known = tt;
  holds = record { first = record { read = read.holds.read; asks = read.holds.asks }; second = traces.1 };
}
gives_some trace capture script (Some octets) files stage r read traces = record {
  reads = read.reads;
  known = read.known;
  holds = record {
    first = read.holds;
    second = subst (λ (reads : Reads). IsRead (if_short (reads.trace trace)) r) (sym read.known) traces;
  };
}

traced_read : (stage : Stage) (due r : Result (List ℕ) StageFault) → IsRead due r →
    IsRead (traced (Ok stage) due) (traced (Ok stage) r)
traced_read stage due (Ok trace) read = ap (traced (Ok stage)) read
traced_read stage due (Err fault) (inl outside) = inl outside
traced_read stage due (Err fault) (inr read) = inr (ap (traced (Ok stage)) read)

-- the trace was asked for, unless a read failed or memory was refused
all_asked : (stage : Stage) (r : Result (List ℕ) StageFault) (asks : Type 0) → IsErrAnd r IsOutside ⊎ asks →
    status_by (traced (Ok stage) r) ≢ ReadFault → status_by (traced (Ok stage) r) ≢ Memory → asks
all_asked stage r asks (inr all) read memory = all
all_asked stage (Ok trace) asks (inl none) read memory = absurd none
all_asked stage (Err fault) asks (inl (inl e)) read memory = absurd (read e)
all_asked stage (Err fault) asks (inl (inr e)) read memory = absurd (memory e)

-- whether a read of it failed
rose_of : (stage : Stage) (r : Result (List ℕ) StageFault) (rose : Type 0) →
    IfErr r (λ fault. fault_status fault ≡ ReadFault → rose) → status_by (traced (Ok stage) r) ≡ ReadFault → rose
rose_of stage (Ok trace) rose cause e = absurd (cc)
rose_of stage (Err fault) rose cause e = cause e

kept_of : (stage : Stage) (r : Result (List ℕ) StageFault) (kept : Type 0) →
    IsErrAnd r (λ fault. fault_status fault ≡ ReadFault) ⊎ kept → status_by (traced (Ok stage) r) ≢ ReadFault → kept
kept_of stage r kept (inr same) read = same
kept_of stage (Ok trace) kept (inl none) read = absurd none
kept_of stage (Err fault) kept (inl e) read = absurd (read e)

-- where a stage was read, both names are due
both_due : (capture script : List ℕ) (r : Result Script StageFault) (c : List Vip → Captured) (stage : Stage) →
    with_script r c ≡ Ok stage → names_after (both_named capture script) r ≡ script ∷ capture ∷ []
both_due capture script (Ok found) c stage is = refl
both_due capture script (Err fault) c stage is = absurd (cc)

-- the stage was read, and then this of the trace
pub trace_read : (trace capture script : List ℕ) (told then : Octets) (held many : ℕ) (files : FilesDid)
    (mid : Option (List Opening)) (later : ℕ) (stage : Stage) (r : Result (List ℕ) StageFault) →
    Holds told (λ reads. ReadsStage Replay (both_named capture script) reads (first_of files mid later) (Ok stage)) →
    AsksAll held (first_of files mid later) (script ∷ capture ∷ []) → many ≡ held →
    then ≡ told → ReadsTraceFile then trace r → AsksPrefix many (second_of files mid later) (trace ∷ []) →
    IsErrAnd r IsOutside ⊎ AsksAll many (second_of files mid later) (trace ∷ []) → later ≤ files.later →
    IfErr r (λ fault. fault_status fault ≡ ReadFault → Rose later files.later) →
    IsErrAnd r (λ fault. fault_status fault ≡ ReadFault) ⊎ (files.later ≡ later) →
    Holds told (λ reads. ReadsTrace trace capture script reads files (traced (Ok stage) r))
trace_read trace capture script told then held many files mid later stage r read both as_many same traces part all low
    cause kept =
    let first = first_of files mid later in
    let last = files.later in
    holds_more told (Gives trace capture script first stage r)
    (λ reads. ReadsTrace trace capture script reads files (traced (Ok stage) r))
    (λ reads gives.
    let s = reading Replay (both_named capture script) reads in
    let found = script_by Replay reads (Some script) in
    let names = names_after (both_named capture script) found in
    let is : s ≡ Ok stage = gives.first.read in
    let asks = gives.first.asks in
    let as_often : later ≡ files.faults = asks.kept (λ e. cc) (λ e. cc) in
    let wanted : names ++ trace_names s trace ≡ (script ∷ capture ∷ []) ++ trace ∷ [] =
    ap (λ (x : Reading). names ++ trace_names x trace) is
    ∙ ap (λ (l : List (List ℕ)). l ++ trace ∷ []) (both_due capture script found (reads.capture capture) stage is) in
    record {
      read = subst (λ (x : Reading). IsRead (traced x (if_short (reads.trace trace))) (traced (Ok stage) r)) (sym is)
          (traced_read stage (if_short (reads.trace trace)) r gives.second);
      asks = record {
        held = held;
        some = subst (AsksPrefix held files) (sym wanted)
            (asks_then held many later files mid (script ∷ capture ∷ []) (trace ∷ []) both as_many as_often part);
        all = λ not memory. subst (AsksAll held files) (sym wanted)
            (all_then held many later files mid (script ∷ capture ∷ []) (trace ∷ []) both as_many as_often
            (all_asked stage r (AsksAll many (second_of files mid later) (trace ∷ [])) all not memory));
        rose = λ e. subst (λ n. Rose n last) as_often (rose_of stage r (Rose later last) cause e);
        kept = λ not memory. kept_of stage r (last ≡ later) kept not ∙ as_often;
        opens = λ e. check_open trace capture script reads;
      };
    })
    (gives_some trace capture script told first stage r read (subst (λ t. ReadsTraceFile t trace r) same traces))

-- a fault that came through `?`
pub trace_through : {A : Type 0} (trace capture script : List ℕ) (told : Octets) (files : FilesDid) (of : A → List ℕ)
    (r : Result (Stage × A) StageFault) (fault : StageFault) → IsErrAnd r (λ e. e ≡ fault) →
    Holds told (λ reads. ReadsTrace trace capture script reads files (Err fault)) →
    Holds told (λ reads. ReadsTrace trace capture script reads files
    (result_map_both (λ read. (read.0, of read.1)) (λ e. e) r))
trace_through trace capture script told files of (Ok x) fault is holds = absurd is
trace_through trace capture script told files of (Err e) fault is holds =
    holds_more told (λ reads. ReadsTrace trace capture script reads files (Err fault))
    (λ reads. ReadsTrace trace capture script reads files (Err e))
    (λ reads h. subst (λ f. ReadsTrace trace capture script reads files (Err f)) (sym is) h) holds

-- HOW THE CALL ENDS

said_check : (due r : Result (Stage × List ℕ) StageFault) (says : Status) (text : List ℕ) → IsRead due r →
    IsOf beamer_lines (answer_of_check r) says text → IsSaid beamer_lines (answer_of_check due) says text
said_check due (Ok read) says text same said =
    subst (λ (d : Result (Stage × List ℕ) StageFault). IsSaid beamer_lines (answer_of_check d) says text) (sym same)
    (inl said)
said_check due (Err fault) says text (inl outside) said =
    said_outside beamer_lines beamer_silent (answer_of_check due) fault says text outside said
said_check due (Err fault) says text (inr same) said =
    subst (λ (d : Result (Stage × List ℕ) StageFault). IsSaid beamer_lines (answer_of_check d) says text) (sym same)
    (inl said)

asks_check : (r : Result (Stage × List ℕ) StageFault) (names : List (List ℕ)) (files : FilesDid) (says : Status)
    (text : List ℕ) → AsksFor names (status_by r) files → IsOf beamer_lines (answer_of_check r) says text →
    AsksFor names says files
asks_check (Ok read) names files says text asks (inl due) =
    asks_unread names files says asks (λ e. check_is_not due.0 says ReadFault due.2 e (λ x. cc) (λ x. cc))
asks_check (Ok read) names files says text asks (inr none) =
    asks_unread names files says asks (λ e. let no : Memory ≡ ReadFault = sym none.0 ∙ e in cc)
asks_check (Err fault) names files says text asks (inl due) =
    asks_as names files (fault_status fault) says asks (λ memory. due.0)
asks_check (Err fault) names files says text asks (inr none) =
    asks_as names files (fault_status fault) says asks (λ memory. absurd (memory none.0))

pub check_ends : (trace capture script : List ℕ) (told : Octets) (files : FilesDid) (sink : SinkDid)
    (r : Result (Stage × List ℕ) StageFault) (result : Status) →
    Holds told (λ reads. ReadsTrace trace capture script reads files r) →
    Tells beamer_lines (answer_of_check r) sink result →
    Holds told (λ reads. Ends beamer_lines (due_of_check trace (both_named capture script) reads) files sink result)
check_ends trace capture script told files sink r result read tells =
    holds_more told (λ reads. ReadsTrace trace capture script reads files r)
    (λ reads. Ends beamer_lines (due_of_check trace (both_named capture script) reads) files sink result)
    (λ reads h. record {
      says = tells.says;
      text = tells.text;
      said = said_check (traced (reading Replay (both_named capture script) reads) (if_short (reads.trace trace))) r
          tells.says tells.text h.read tells.is;
      writes = tells.writes;
      asks = asks_check r (due_of_check trace (both_named capture script) reads).names files tells.says tells.text
          h.asks tells.is;
    }) read
