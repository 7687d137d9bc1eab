-- What was read of the script and of the capture is the stage that is due, or its fault.
use Rattle.std.proofs.Common.{◌≡◌, ◌≢◌, ◌⊎◌, inl, inr, ℕ, List, [], ◌∷◌, ◌++◌, Option, Some, None, Result, Ok, Err}
use Rattle.std.proofs.Common.{IfOk, IsErrAnd, IsSome, sym, ap, subst, ◌∙◌, refl}
use Rattle.std.specs.Prelude.{◌≤◌, IsErrOf}
use Rattle.std.specs.Result.{result_map_both}
use Rattle.bm_base.specs.declared.capture.Capture.{Capture}
use Rattle.bm_base.specs.declared.capture.Vip.{Vip}
use Rattle.bm_io.specs.Causes.{Rose}
use Rattle.bm_io.specs.declared.opening.Opening.{Opening}
use Rattle.bm_table.specs.declared.script.Script.{Script}
use Rattle.bm_pcap.specs.Capture.{Captured}
use Rattle.bm_pcap.specs.declared.fault.CaptureFault.{CaptureFault}
use Rattle.bm_pcap.specs.declared.fault.CaptureFault.TheVariants.{NotACapture, BadVersion, BadLink, BadBlock, TooLarge}
use Rattle.bm_pcap.specs.declared.fault.CaptureFault.TheVariants.{ReadFault as SourceFault, Memory as NoMemory}
use Rattle.bm_pcap.specs.declared.fault.CaptureFault.TheVariants.{BadLength, TooManyPackets}
use Rattle.bm_script.specs.declared.verbs.ChangeVerb.{ChangeVerb}
use Rattle.bm_words.specs.Form.{Named}
use Rattle.bm_cli.specs.declared.fault.StageFault.{StageFault}
use Rattle.bm_cli.specs.declared.fault.StageFault.TheVariants.{Capture as OfCapture, Seats}
use Rattle.bm_cli.specs.declared.mode.Mode.{Mode}
use Rattle.bm_cli.specs.declared.stage.NamedStage.{NamedStage}
use Rattle.bm_cli.specs.declared.mode.Mode.TheVariants.{Replay, Run}
use Rattle.bm_cli.specs.declared.status.Status.TheVariants.{ReadFault, Memory}
use Rattle.bm_cli.specs.Dues.{names_after}
use Rattle.bm_cli.specs.Ends.{AsksFor}
use Rattle.bm_pcap.specs.Causes.{HasStepCause}
use Rattle.bm_pcap.specs.Reader.{Captures}
use Rattle.bm_cli.specs.Inside.Captures.{FileBegan, ReadsFile}
use Rattle.bm_cli.specs.Inside.Scripts.{ReadsScript, ReadsVerbs}
use Rattle.bm_cli.specs.Stages.{IsOutside, IsRead}
use Rattle.bm_cli.specs.Stages.{ReadsStage, status_by}
use Rattle.bm_cli.specs.Lines.{capture_status, fault_status}
use Rattle.bm_cli.specs.Names.{AsksAll, AsksPrefix, script_names}
use Rattle.bm_cli.specs.Reading.{Holds, Octets, Reading, Reads, if_taken, reading, reads_of, script_by, script_for}
use Rattle.bm_cli.specs.Reading.{taken, verbs_for}
use Rattle.bm_cli.specs.Reading.{with_capture, with_script}
use Rattle.bm_cli.specs.Statuses.{FilesDid}
use Rattle.bm_cli.specs.Streams.{packets_in, packets_of, packets_with}
use Rattle.bm_cli.proofs.Ending.{holds_more}
use Rattle.bm_cli.proofs.Names.{all_then, asks_more, asks_then, first_of, second_of}
use Rattle.bm_cli.proofs.Readings.{rose_later}

-- a replay always asks for a name
behind_opens : (name : List ℕ) (names : List (List ℕ)) → names ++ name ∷ [] ≢ []
behind_opens name [] = λ e. cc
behind_opens name (x ∷ xs) = λ e. cc

-- the reads where the files' octets aren't known: whatever was read
abbrev just : Result Script StageFault → List ChangeVerb → Captured → ℕ → Reads
just script verbs captured time = record {
  script = λ name. script;
  verbs = λ name. verbs;
  capture = λ name vips. captured;
  began = λ name. time;
  trace = λ name. None;
}

-- of a stage that was read this is when its capture began, and this is what its script's commands say
abbrev pub BeganWith : {A : Type 0} → Result A CaptureFault → ℕ → List ChangeVerb → Named → Reads → Type 0
BeganWith r time verbs names reads =
    IfOk r (λ read. (time ≡ reads.began names.capture) × (verbs ≡ verbs_for reads names.script))

-- of a capture that was read these are the packets
abbrev pub PacketsWith : Mode → Named → Captured → Reads → Type 0
PacketsWith mode names r reads = IfOk r (λ read. read.1 ≡ packets_in mode names reads)

-- a stage that was read, when its capture began, what its commands say, and its packets
pub record ReadsAll (mode : Mode) (names : Named) (files : FilesDid) (got : Reading) (r : Captured) (time : ℕ)
    (verbs : List ChangeVerb) (reads : Reads) : Type 0 where
  pub stage : ReadsStage mode names reads files got
  pub began : BeganWith r time verbs names reads
  pub packets : PacketsWith mode names r reads

-- what was read, without when the capture began
pub stage_alone : (mode : Mode) (names : Named) (told : Octets) (files : FilesDid) (r : Reading) (more : Reads → Type 0)
    → Holds told (λ reads. ReadsStage mode names reads files r × more reads) →
    Holds told (λ reads. ReadsStage mode names reads files r)
stage_alone mode names told files r more both =
    holds_more told (λ reads. ReadsStage mode names reads files r × more reads)
    (λ reads. ReadsStage mode names reads files r) (λ reads h. h.0) both

-- THE SCRIPT WAS REFUSED

abbrev Refused : StageFault → Option (List ℕ) → Reads → Type 0
Refused fault name reads = IsRead (script_for reads name) (Err fault)

-- by some reads, which are those of the files where their octets are known
refused_some : (told : Octets) (name : Option (List ℕ)) (fault : StageFault) → ReadsScript told name (Err fault) →
    Holds told (Refused fault name)
refused_some None None fault read = record { reads = just (Err fault) [] (Err NoMemory) 0; known = tt; holds = read }
refused_some None (Some name) fault read =
    record { reads = just (Err fault) [] (Err NoMemory) 0; known = tt; holds = inr refl }
refused_some (Some octets) None fault read = record { reads = reads_of octets; known = refl; holds = read }
refused_some (Some octets) (Some name) fault read = record { reads = reads_of octets; known = refl; holds = read }

refused_reading : (mode : Mode) (names : Named) (reads : Reads) (fault : StageFault) →
    Refused fault names.script reads → IsRead (reading mode names reads) (Err fault)
refused_reading mode names reads fault (inl outside) = inl outside
refused_reading mode names reads fault (inr due) =
    inr (ap (λ (s : Result Script StageFault). with_script (if_taken mode s) (reads.capture names.capture)) due)

-- so is the script to play
refused_by : (mode : Mode) (reads : Reads) (name : Option (List ℕ)) (fault : StageFault) →
    Refused fault name reads → IsRead (script_by mode reads name) (Err fault)
refused_by mode reads name fault (inl outside) = inl outside
refused_by mode reads name fault (inr due) = inr (ap (if_taken mode) due)

behind_some : (names : Named) (held : ℕ) (files : FilesDid) (r : Result Script StageFault) →
    AsksPrefix held files (script_names names.script) → AsksPrefix held files (names_after names r)
behind_some names held files (Ok script) h =
    asks_more held files (script_names names.script) (names.capture ∷ []) h
behind_some names held files (Err fault) h = h

behind_all : (names : Named) (held : ℕ) (files : FilesDid) (r : Result Script StageFault) (fault : StageFault) →
    IsRead r (Err fault) → IsOutside fault ⊎ AsksAll held files (script_names names.script) →
    fault_status fault ≢ ReadFault → fault_status fault ≢ Memory → AsksAll held files (names_after names r)
behind_all names held files r fault (inl (inl e)) all read memory = absurd (read e)
behind_all names held files r fault (inl (inr e)) all read memory = absurd (memory e)
behind_all names held files r fault (inr due) (inl (inl e)) read memory = absurd (read e)
behind_all names held files r fault (inr due) (inl (inr e)) read memory = absurd (memory e)
behind_all names held files r fault (inr due) (inr all) read memory =
    subst (λ (s : Result Script StageFault). AsksAll held files (names_after names s)) (sym due) all

-- a run has a script
abbrev pub HasScript : Mode → Named → Type 0
HasScript mode names = mode ≡ Run → IsSome names.script

names_open : (mode : Mode) (names : Named) (reads : Reads) → HasScript mode names →
    names_after names (script_by mode reads names.script) ≢ []
names_open mode names reads has = by names.script refl where
  named : (name : List ℕ) (r : Result Script StageFault) → names.script ≡ Some name → names_after names r ≢ []
  named name (Ok script) is = behind_opens names.capture (script_names names.script)
  named name (Err fault) is = rw is (λ e. cc)

  unnamed : (m : Mode) → mode ≡ m → names.script ≡ None → names_after names (script_by m reads None) ≢ []
  unnamed Replay same is = behind_opens names.capture (script_names names.script)
  unnamed Run same is = let some : IsSome names.script = has same in absurd (cc)

  by : (name : Option (List ℕ)) → names.script ≡ name → names_after names (script_by mode reads names.script) ≢ []
  by None is =
      subst (λ n. names_after names (script_by mode reads n) ≢ []) (sym is) (unnamed mode refl is)
  by (Some name) is = named name (script_by mode reads names.script) is

pub script_named : (capture script : List ℕ) (r : Result Script StageFault) →
    names_after (record { capture = capture; script = Some script }) r ≢ []
script_named capture script (Ok found) = λ e. cc
script_named capture script (Err fault) = λ e. cc

-- no read failed, where that is not what was answered
kept_by : (files : FilesDid) (fault : StageFault) → fault_status fault ≢ ReadFault →
    (fault_status fault ≡ ReadFault) ⊎ (files.later ≡ files.faults) → files.later ≡ files.faults
kept_by files fault read (inl e) = absurd (read e)
kept_by files fault read (inr same) = same

pub script_refused : (mode : Mode) (names : Named) (told : Octets) (held : ℕ) (files : FilesDid)
    (fault : StageFault) → HasScript mode names → ReadsScript told names.script (Err fault) →
    AsksPrefix held files (script_names names.script) →
    IsOutside fault ⊎ AsksAll held files (script_names names.script) →
    (fault_status fault ≡ ReadFault → Rose files.faults files.later) →
    (fault_status fault ≡ ReadFault) ⊎ (files.later ≡ files.faults) →
    Holds told (λ reads. ReadsStage mode names reads files (Err fault))
script_refused mode names told held files fault has read some all rose same =
    let found = refused_some told names.script fault read in
    let script = script_by mode found.reads names.script in
    record {
      reads = found.reads;
      known = found.known;
      holds = record {
        read = refused_reading mode names found.reads fault found.holds;
        asks = record {
          held = held;
          some = behind_some names held files script some;
          all = behind_all names held files script fault
              (refused_by mode found.reads names.script fault found.holds) all;
          rose = rose;
          kept = λ read memory. kept_by files fault read same;
          opens = λ e. names_open mode names found.reads has;
        };
      };
    }

-- THE SCRIPT WAS READ

-- what was read of a capture, as the fault of a stage
captured_read : (wanted : Captured) (fault : CaptureFault) → Captures wanted (Err fault) →
    IsOutside (OfCapture fault) ⊎ (wanted ≡ Err fault)
captured_read wanted NotACapture h = inr (sym h)
captured_read wanted BadVersion h = inr (sym h)
captured_read wanted (BadLink link) h = inr (sym h)
captured_read wanted (BadBlock block) h = inr (sym h)
captured_read wanted SourceFault h = inl (inl refl)
captured_read wanted TooLarge h = inr (sym h)
captured_read wanted (BadLength number n) h = inr (sym h)
captured_read wanted TooManyPackets h = inr (sym h)
captured_read wanted NoMemory h = inl (inr refl)

stage_read : (script : Script) (wanted r : Captured) → Captures wanted r →
    IsRead (with_capture script wanted) (with_capture script r)
stage_read script wanted (Ok read) h = ap (with_capture script) (sym h)
stage_read script wanted (Err fault) h = by (captured_read wanted fault h) where
  by : IsOutside (OfCapture fault) ⊎ (wanted ≡ Err fault) →
      IsRead (with_capture script wanted) (Err (OfCapture fault))
  by (inl outside) = inl outside
  by (inr due) = inr (ap (with_capture script) due)

captures_self : (r : Captured) → Captures r r
captures_self (Ok read) = refl
captures_self (Err NotACapture) = refl
captures_self (Err BadVersion) = refl
captures_self (Err (BadLink link)) = refl
captures_self (Err (BadBlock block)) = refl
captures_self (Err SourceFault) = tt
captures_self (Err TooLarge) = refl
captures_self (Err (BadLength number n)) = refl
captures_self (Err TooManyPackets) = refl
captures_self (Err NoMemory) = tt

with_verbs : (r : Captured) (began said : Type 0) → IfOk r (λ read. began) → said → IfOk r (λ read. began × said)
with_verbs (Ok read) began said b s = (b, s)
with_verbs (Err fault) began said b s = tt

any_time : (r : Captured) (time : ℕ) → IfOk r (λ read. time ≡ time)
any_time (Ok read) time = refl
any_time (Err fault) time = tt

-- this script is read, whose commands say this, and this capture, which began at this time
record Gives (names : Named) (script : Script) (verbs : List ChangeVerb) (r : Captured) (time : ℕ) (reads : Reads)
    : Type 0 where
  pub first : script_for reads names.script ≡ Ok script
  pub second : Captures (reads.capture names.capture script.setting.vips) r
  pub third : BeganWith r time verbs names reads

-- by some reads, which are those of the files where their octets are known
gives_some : (names : Named) (told : Octets) (script : Script) (verbs : List ChangeVerb) (r : Captured) (time : ℕ)
    (name : Option (List ℕ)) → names.script ≡ name → ReadsScript told name (Ok script) → ReadsVerbs told name verbs →
    ReadsFile told names.capture script.setting.vips r → IfOk r (λ read. FileBegan told names.capture time) →
    Holds told (Gives names script verbs r time)
gives_some names None script verbs r time None is first words second third =
    let reads = just (Ok script) verbs r time in
    record {
      reads = reads;
      known = tt;
      holds = record {
        first = ap (script_for reads) is ∙ first;
        second = captures_self r;
        third = with_verbs r (time ≡ time) (verbs ≡ verbs_for reads names.script) (any_time r time)
            (words ∙ sym (ap (verbs_for reads) is));
      };
    }
gives_some names None script verbs r time (Some name) is first words second third =
    let reads = just (Ok script) verbs r time in
    record {
      reads = reads;
      known = tt;
      holds = record {
        first = ap (script_for reads) is;
        second = captures_self r;
        third = with_verbs r (time ≡ time) (verbs ≡ verbs_for reads names.script) (any_time r time)
            (sym (ap (verbs_for reads) is));
      };
    }
gives_some names (Some octets) script verbs r time None is first words second third =
    let reads = reads_of octets in
    record {
      reads = reads;
      known = refl;
      holds = record {
        first = ap (script_for reads) is ∙ first;
        second = second;
        third = with_verbs r (time ≡ reads.began names.capture) (verbs ≡ verbs_for reads names.script) third
            (words ∙ sym (ap (verbs_for reads) is));
      };
    }
gives_some names (Some octets) script verbs r time (Some name) is first words second third =
    let reads = reads_of octets in
    record {
      reads = reads;
      known = refl;
      holds = record {
        first = ap (script_for reads) is ∙ first;
        second = second;
        third = with_verbs r (time ≡ reads.began names.capture) (verbs ≡ verbs_for reads names.script) third
            (words ∙ sym (ap (verbs_for reads) is));
      };
    }

gives_reading : (mode : Mode) (names : Named) (script : Script) (verbs : List ChangeVerb) (r : Captured) (time : ℕ)
    (reads : Reads) → taken mode script ≡ Ok script → Gives names script verbs r time reads →
    IsRead (reading mode names reads) (with_capture script r)
gives_reading mode names script verbs r time reads takes gives =
    let wanted = reads.capture names.capture script.setting.vips in
    subst
    (λ (s : Result Script StageFault). IsRead (with_script s (reads.capture names.capture)) (with_capture script r))
    (sym (ap (if_taken mode) gives.first ∙ takes)) (stage_read script wanted r gives.second)

gives_packets : (mode : Mode) (names : Named) (script : Script) (verbs : List ChangeVerb) (r : Captured) (time : ℕ)
    (reads : Reads) → taken mode script ≡ Ok script → Gives names script verbs r time reads →
    PacketsWith mode names r reads
gives_packets mode names script verbs (Ok read) time reads takes gives =
    ap packets_of gives.second
    ∙ sym (ap (λ (s : Result Script StageFault). packets_with s (reads.capture names.capture))
    (ap (if_taken mode) gives.first ∙ takes))
gives_packets mode names script verbs (Err fault) time reads takes gives = tt

-- want of memory, as the status of what was read
memory_by : (script : Script) (r : Captured) → IsErrOf r NoMemory → status_by (with_capture script r) ≡ Memory
memory_by script (Ok read) h = absurd (cc)
memory_by script (Err fault) h = let is : fault ≡ NoMemory = cc in ap capture_status is

pub capture_read : (mode : Mode) (names : Named) (told : Octets) (held many kept : ℕ) (files : FilesDid)
    (mid : Option (List Opening)) (script : Script) (verbs : List ChangeVerb) (r : Captured) (time : ℕ) →
    HasScript mode names → taken mode script ≡ Ok script → ReadsScript told names.script (Ok script) →
    ReadsVerbs told names.script verbs → ReadsFile told names.capture script.setting.vips r → IfOk r (λ read. FileBegan told names.capture time) →
    AsksAll held (first_of files mid kept) (script_names names.script) → many ≡ held → kept ≡ files.faults →
    AsksPrefix many (second_of files mid kept) (names.capture ∷ []) →
    IsErrOf r NoMemory ⊎ AsksAll many (second_of files mid kept) (names.capture ∷ []) →
    (status_by (with_capture script r) ≡ ReadFault → Rose files.faults files.later) →
    (status_by (with_capture script r) ≢ ReadFault → files.later ≡ files.faults) →
    Holds told (ReadsAll mode names files (with_capture script r) r time verbs)
capture_read mode names told held many kept files mid script verbs r time has takes first words second third before
    as_many as_often part all rose same =
    let found = gives_some names told script verbs r time names.script refl first words second third in
    let asks : AsksFor (names_after names (script_by mode found.reads names.script))
    (status_by (with_capture script r)) files = record {
      held = held;
      some = behind (AsksPrefix held files) (ap (if_taken mode) found.holds.first ∙ takes)
          (asks_then held many kept files mid (script_names names.script) (names.capture ∷ []) before as_many as_often
          part);
      all = λ read memory. behind (AsksAll held files) (ap (if_taken mode) found.holds.first ∙ takes)
          (whole all memory);
      rose = rose;
      kept = λ read memory. same read;
      opens = λ e. names_open mode names found.reads has;
    } in
    record {
      reads = found.reads;
      known = found.known;
      holds = record {
        stage = record { read = gives_reading mode names script verbs r time found.reads takes found.holds; asks = asks };
        began = found.holds.third;
        packets = gives_packets mode names script verbs r time found.reads takes found.holds;
      };
    }
  where
    behind : (fact : List (List ℕ) → Type 0) {s : Result Script StageFault} → s ≡ Ok script →
        fact (script_names names.script ++ names.capture ∷ []) → fact (names_after names s)
    behind fact is h = subst (λ s. fact (names_after names s)) (sym is) h

    whole : IsErrOf r NoMemory ⊎ AsksAll many (second_of files mid kept) (names.capture ∷ []) →
        status_by (with_capture script r) ≢ Memory →
        AsksAll held files (script_names names.script ++ names.capture ∷ [])
    whole (inl none) memory = absurd (memory (memory_by script r none))
    whole (inr h) memory =
        all_then held many kept files mid (script_names names.script) (names.capture ∷ []) before as_many as_often h

-- ITS SEATS WERE REFUSED

abbrev pub read_ok : Script → Result Script StageFault
read_ok script = Ok script

-- a script that was read was asked for
asked_ok : (script : Script) (asks : Type 0) → IsErrAnd (read_ok script) IsOutside ⊎ asks → asks
asked_ok script asks (inl h) = absurd h
asked_ok script asks (inr h) = h

-- no read of it failed
kept_ok : (script : Script) (before now : ℕ) →
    IsErrAnd (read_ok script) (λ fault. fault_status fault ≡ ReadFault) ⊎ (now ≡ before) → now ≡ before
kept_ok script before now (inl h) = absurd h
kept_ok script before now (inr same) = same

not_played : (names : Named) (r : Result Script StageFault) (fault : StageFault) → r ≡ Err fault →
    (fact : List (List ℕ) → Type 0) → fact (script_names names.script) → fact (names_after names r)
not_played names r fault is fact h = subst (λ s. fact (names_after names s)) (sym is) h

-- by some reads, which are those of the files where their octets are known
read_some : (names : Named) (told : Octets) (script : Script) → ReadsScript told names.script (Ok script) →
    Holds told (λ reads. script_for reads names.script ≡ Ok script)
read_some names told script read = by told names.script refl read where
  by : (told : Octets) (name : Option (List ℕ)) → names.script ≡ name → ReadsScript told name (Ok script) →
      Holds told (λ reads. script_for reads names.script ≡ Ok script)
  by None None is read =
      let reads = just (Ok script) [] (Err NoMemory) 0
      in record { reads = reads; known = tt; holds = ap (script_for reads) is ∙ read }
  by None (Some name) is read =
      let reads = just (Ok script) [] (Err NoMemory) 0
      in record { reads = reads; known = tt; holds = ap (script_for reads) is }
  by (Some octets) None is read =
      record { reads = reads_of octets; known = refl; holds = ap (script_for (reads_of octets)) is ∙ read }
  by (Some octets) (Some name) is read =
      record { reads = reads_of octets; known = refl; holds = ap (script_for (reads_of octets)) is ∙ read }

-- the seats of the script that was read are too many
pub seats_refused : (mode : Mode) (names : Named) (told : Octets) (held : ℕ) (files : FilesDid) (script : Script)
    (fault : StageFault) → HasScript mode names → ReadsScript told names.script (Ok script) →
    (taken mode script ≡ Err fault) × (fault ≡ Seats) →
    IsErrAnd (read_ok script) IsOutside ⊎ AsksAll held files (script_names names.script) →
    AsksPrefix held files (script_names names.script) →
    IsErrAnd (read_ok script) (λ fault. fault_status fault ≡ ReadFault) ⊎ (files.later ≡ files.faults) →
    Holds told (λ reads. ReadsStage mode names reads files (Err fault))
seats_refused mode names told held files script fault has read refused all some same =
    let found = read_some names told script read in
    let is = ap (if_taken mode) found.holds ∙ refused.0 in
    record {
      reads = found.reads;
      known = found.known;
      holds = record {
        read = inr (ap (λ (s : Result Script StageFault). with_script s (found.reads.capture names.capture)) is);
        asks = record {
          held = held;
          some = not_played names _ fault is (AsksPrefix held files) some;
          all = λ read memory. not_played names _ fault is (AsksAll held files)
              (asked_ok script (AsksAll held files (script_names names.script)) all);
          rose = λ e. let no = sym (ap fault_status refused.1) ∙ e in absurd (cc);
          kept = λ read memory. kept_ok script files.faults files.later same;
          opens = λ e. names_open mode names found.reads has;
        };
      };
    }

-- BY WHAT THE CALLS SAY

source_failed : (script : Script) (r : Captured) → status_by (with_capture script r) ≡ ReadFault →
    IsErrOf r SourceFault
source_failed script (Ok read) e = absurd (cc)
source_failed script (Err NotACapture) e = absurd (cc)
source_failed script (Err BadVersion) e = absurd (cc)
source_failed script (Err (BadLink link)) e = absurd (cc)
source_failed script (Err (BadBlock block)) e = absurd (cc)
source_failed script (Err SourceFault) e = refl
source_failed script (Err TooLarge) e = absurd (cc)
source_failed script (Err (BadLength number n)) e = absurd (cc)
source_failed script (Err TooManyPackets) e = absurd (cc)
source_failed script (Err NoMemory) e = absurd (cc)

pub captured_stage : (mode : Mode) (names : Named) (told then : Octets) (held many : ℕ) (files : FilesDid)
    (mid : Option (List Opening)) (script : Script) (verbs : List ChangeVerb) (vips : List Vip) (r : Captured)
    (time faults : ℕ) →
    HasScript mode names → taken mode script ≡ Ok script →
    then ≡ told → vips ≡ script.setting.vips →
    ReadsScript told names.script (Ok script) → ReadsVerbs told names.script verbs →
    ReadsFile then names.capture vips r →
    IfOk r (λ read. FileBegan then names.capture time) →
    IsErrAnd (read_ok script) IsOutside ⊎ AsksAll held (first_of files mid faults) (script_names names.script) →
    many ≡ held → AsksPrefix many (second_of files mid faults) (names.capture ∷ []) →
    IsErrOf r NoMemory ⊎ AsksAll many (second_of files mid faults) (names.capture ∷ []) →
    files.faults ≤ faults →
    IsErrAnd (read_ok script) (λ fault. fault_status fault ≡ ReadFault) ⊎ (faults ≡ files.faults) →
    HasStepCause faults files.later r →
    Holds told (ReadsAll mode names files (with_capture script r) r time verbs)
captured_stage mode names told then held many files mid script verbs vips r time faults has takes same served first
    words second third before as_many part all low kept cause =
    capture_read mode names told held many faults files mid script verbs r time has takes first words
    (subst (λ t. ReadsFile t names.capture script.setting.vips r) same
    (subst (λ v. ReadsFile then names.capture v r) served second))
    (subst (λ t. IfOk r (λ read. FileBegan t names.capture time)) same third)
    (asked_ok script (AsksAll held (first_of files mid faults) (script_names names.script)) before) as_many
    (kept_ok script files.faults faults kept) part all
    (λ e. rose_later files.faults faults files.later low (cause.failed (source_failed script r e)))
    (λ read. cause.kept (λ e. read (ap (λ (c : Captured). status_by (with_capture script c)) e))
    ∙ kept_ok script files.faults faults kept)

abbrev captured_ok : Capture × List (List ℕ) → Captured
captured_ok read = Ok read

abbrev with_files : Option (List Opening) → Option (List Opening) → ℕ → ℕ → FilesDid
with_files before now often faults = record { before = before; now = now; faults = often; later = faults }

-- both names were asked for
pub both_asked : (names : Named) (held many often faults : ℕ) (before mid now : Option (List Opening))
    (script : Script) (read : Capture × List (List ℕ)) →
    IsErrAnd (read_ok script) IsOutside
    ⊎ AsksAll held (first_of (with_files before now often faults) mid faults) (script_names names.script) →
    IsErrAnd (read_ok script) (λ fault. fault_status fault ≡ ReadFault) ⊎ (faults ≡ often) → many ≡ held →
    IsErrOf (captured_ok read) NoMemory
    ⊎ AsksAll many (second_of (with_files before now often faults) mid faults) (names.capture ∷ []) →
    AsksAll held (with_files before now often faults) (script_names names.script ++ names.capture ∷ [])
both_asked names held many often faults before mid now script read scripts kept as_many (inl none) = absurd (cc)
both_asked names held many often faults before mid now script read scripts kept as_many (inr all) =
    let files = with_files before now often faults in
    all_then held many faults files mid (script_names names.script) (names.capture ∷ [])
    (asked_ok script (AsksAll held (first_of files mid faults) (script_names names.script)) scripts) as_many
    (kept_ok script often faults kept) all

-- when it began, and what its commands say
pub stage_began : (mode : Mode) (names : Named) (told : Octets) (files : FilesDid) (stage : Reading) (r : Captured)
    (time : ℕ) (verbs : List ChangeVerb) → Holds told (ReadsAll mode names files stage r time verbs) →
    Holds told (λ reads. ReadsStage mode names reads files stage × BeganWith r time verbs names reads)
stage_began mode names told files stage r time verbs all =
    holds_more told (ReadsAll mode names files stage r time verbs)
    (λ reads. ReadsStage mode names reads files stage × BeganWith r time verbs names reads)
    (λ reads h. (h.stage, h.began)) all

-- its packets
pub stage_packets : (mode : Mode) (names : Named) (told : Octets) (files : FilesDid) (stage : Reading) (r : Captured)
    (time : ℕ) (verbs : List ChangeVerb) → Holds told (ReadsAll mode names files stage r time verbs) →
    Holds told (λ reads. ReadsStage mode names reads files stage × PacketsWith mode names r reads)
stage_packets mode names told files stage r time verbs all =
    holds_more told (ReadsAll mode names files stage r time verbs)
    (λ reads. ReadsStage mode names reads files stage × PacketsWith mode names r reads)
    (λ reads h. (h.stage, h.packets)) all

-- a fault that came through `?`
pub packets_through : (mode : Mode) (names : Named) (told : Octets) (files : FilesDid)
    (r : Result NamedStage StageFault) (fault : StageFault) → IsErrAnd r (λ e. e ≡ fault) →
    Holds told (λ reads. ReadsStage mode names reads files (Err fault)) →
    Holds told (λ reads.
    ReadsStage mode names reads files (result_map_both (λ read. read.stage) (λ fault. fault) r)
    × IfOk r (λ read. read.packets ≡ packets_in mode names reads))
packets_through mode names told files (Ok x) fault is holds = absurd is
packets_through mode names told files (Err e) fault is holds =
    holds_more told (λ reads. ReadsStage mode names reads files (Err fault))
    (λ reads. ReadsStage mode names reads files (Err e) × Unit {0})
    (λ reads h. (subst (λ f. ReadsStage mode names reads files (Err f)) (sym is) h, tt)) holds

pub stage_through : (mode : Mode) (names : Named) (told : Octets) (files : FilesDid)
    (r : Result NamedStage StageFault) (fault : StageFault) → IsErrAnd r (λ e. e ≡ fault) →
    Holds told (λ reads. ReadsStage mode names reads files (Err fault)) →
    Holds told (λ reads.
    ReadsStage mode names reads files (result_map_both (λ read. read.stage) (λ fault. fault) r)
    × IfOk r (λ read. (read.began ≡ reads.began names.capture) × (read.verbs ≡ verbs_for reads names.script)))
stage_through mode names told files (Ok x) fault is holds = absurd is
stage_through mode names told files (Err e) fault is holds =
    holds_more told (λ reads. ReadsStage mode names reads files (Err fault))
    (λ reads. ReadsStage mode names reads files (Err e) × Unit {0})
    (λ reads h. (subst (λ f. ReadsStage mode names reads files (Err f)) (sym is) h, tt)) holds
