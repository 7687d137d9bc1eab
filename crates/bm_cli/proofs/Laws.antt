-- The clauses of a top call, by what is due and by how the call ended.
use Rattle.std.proofs.Common.{◌≡◌, ◌≢◌, ◌⊎◌, inl, inr, ℕ, List, [], Option, None, IsSome, Result, Ok, Err}
use Rattle.std.proofs.Common.{sym, ap, subst, ◌∙◌, refl, ◌≤◌, arith}
use Rattle.std.specs.Io.KnownBytes.{Appends}
use Rattle.bm_io.specs.Causes.{Rose}
use Rattle.bm_check.specs.declared.answer.Answer.{Answer as Checked}
use Rattle.bm_check.specs.declared.answer.Answer.TheVariants.{Yes, NotLine, NotRun, NotAccount, NotSame}
use Rattle.bm_words.specs.Form.{Named}
use Rattle.bm_table.specs.declared.script.Script.{Script}
use Rattle.bm_core.specs.declared.events.Stage.{Stage}
use Rattle.bm_pcap.specs.Capture.{Captured}
use Rattle.bm_cli.specs.Checks.{checked_line, checked_status}
use Rattle.bm_cli.specs.declared.fault.StageFault.{StageFault}
use Rattle.bm_cli.specs.declared.status.Status.{Status}
use Rattle.bm_cli.specs.declared.status.Status.TheVariants.{Done, Usage, ReadFault, BadCapture}
use Rattle.bm_cli.specs.declared.status.Status.TheVariants.{BadScript, WriteFault, Memory, Limit, Denied}
use Rattle.bm_cli.specs.declared.status.Status.TheVariants.{Exceeded}
use Rattle.bm_cli.specs.Dues.{Answer, Due, IsDue, Judged, Misused, Refused, Shown, Warned, answer_for, names_after}
use Rattle.bm_cli.specs.Ends.{Ends, EndsWith, IsSaid}
use Rattle.bm_cli.specs.Lines.{FaultLines, IsReadLine}
use Rattle.bm_cli.specs.Headline.{Shows}
use Rattle.bm_cli.specs.Names.{AsksAll, AsksPrefix, script_names}
use Rattle.bm_cli.specs.Program.{IsProgram, Program}
use Rattle.bm_cli.specs.Reading.{Holds, Octets, Reading, Reads, with_capture}
use Rattle.bm_cli.specs.Reading.{with_script}
use Rattle.bm_cli.specs.Statuses.{code_of, FilesDid, SinkDid}
use Rattle.bm_cli.specs.Top.{DeniesAnswer, IsAccepted, IsStatusOf, RefusesAnswer, ShowsAnswer, WarnsAnswer}
use Rattle.bm_cli.specs.Top.{WritesSome}
use Rattle.bm_cli.proofs.Ending.{holds_more}
use Rattle.bm_cli.proofs.Faults.{capture_no_script, of_fault}
use Rattle.bm_cli.proofs.Statuses.{code_below, same_code, says_is}

-- ONE ENDING

-- what is due, where that is said
due_said : (lines : FaultLines) (answer : Answer) (says t : Status) (text : List ℕ) → t ≢ ReadFault → t ≢ Memory → says ≡ t →
    IsSaid lines answer says text → IsDue lines answer says text
due_said lines answer says t text read memory is (inl (inl due)) = due
due_said lines answer says t text read memory is (inl (inr none)) = absurd (memory (sym is ∙ none.0))
due_said lines answer says t text read memory is (inr line) = absurd (read (sym is ∙ line.0))

module _ (lines : FaultLines) (wanted : Due) (files : FilesDid) (sink : SinkDid) (s : Status) (ends : Ends lines wanted files sink s) where
  -- the status is what was said, where neither the sink failed nor memory was refused
  pub own : (t : Status) → t ≢ WriteFault → t ≢ Memory → s ≡ t → s ≡ ends.says
  own t write memory is = says_is ends.says ends.text sink s t ends.writes write memory is

  -- the status and the text are those that are due, where no read failed either
  pub dues : (t : Status) → t ≢ ReadFault → t ≢ WriteFault → t ≢ Memory → s ≡ t →
      IsDue lines wanted.answer t ends.text × Appends sink.before sink.now ends.text
  dues t read write memory is =
      let said = own t write memory is in
      let same = sym said ∙ is in
      let is_due = due_said lines wanted.answer ends.says t ends.text read memory same ends.said in
      (subst (λ says. IsDue lines wanted.answer says ends.text) same is_due, ends.writes.whole said)

  pub all_asked : (t : Status) → t ≢ ReadFault → t ≢ WriteFault → t ≢ Memory → s ≡ t →
      (held : ℕ) × AsksAll held files wanted.names
  all_asked t read write memory is =
      let said = own t write memory is in
      (ends.asks.held, ends.asks.all (λ e. read (sym is ∙ said ∙ e)) (λ e. memory (sym is ∙ said ∙ e)))

  pub read_said : s ≡ ReadFault → ends.says ≡ ReadFault
  read_said is = sym (own ReadFault (λ e. cc) (λ e. cc) is) ∙ is

-- SHOWN

-- a check that ends with status 0 answers yes
shown_yes : (of : Checked → Type 0) (a : Checked) (before now : Option (List ℕ)) (text : List ℕ) → of a →
    Done ≡ checked_status a → text ≡ checked_line a → Appends before now text → ShowsAnswer (Judged of) before now
shown_yes of (Yes e) before now text is status line written =
    (e, is, subst (λ l. Appends before now l) line written)
shown_yes of (NotLine n) before now text is status line written = absurd (cc)
shown_yes of (NotRun n) before now text is status line written = absurd (cc)
shown_yes of NotAccount before now text is status line written = absurd (cc)
shown_yes of (NotSame n) before now text is status line written = absurd (cc)

-- no check ends with another status
check_status : (a : Checked) → (checked_status a ≡ Done) ⊎ (checked_status a ≡ Denied)
check_status (Yes e) = inl refl
check_status (NotLine n) = inr refl
check_status (NotRun i) = inr refl
check_status NotAccount = inr refl
check_status (NotSame n) = inr refl

pub check_is_not : (a : Checked) (s t : Status) → s ≡ checked_status a → s ≡ t → Done ≢ t → Denied ≢ t → ⊥
check_is_not a s t is same done denied = by (check_status a) where
  by : (checked_status a ≡ Done) ⊎ (checked_status a ≡ Denied) → ⊥
  by (inl e) = done (sym e ∙ sym is ∙ same)
  by (inr e) = denied (sym e ∙ sym is ∙ same)

pub shown_answer : (lines : FaultLines) (answer : Answer) (before now : Option (List ℕ)) (text : List ℕ) → IsDue lines answer Done text →
    Appends before now text → ShowsAnswer answer before now
shown_answer lines (Misused line) before now text is written = absurd (let no = is.0 in cc)
shown_answer lines (Refused fault) before now text is written = absurd ((of_fault fault).done (sym is.0))
shown_answer lines (Shown of) before now text is written =
    record { octets = text; report = is.1; written = written }
shown_answer lines (Warned line) before now text is written = absurd (let no = is.0 in cc)
shown_answer lines (Judged of) before now text is written =
    shown_yes of is.0 before now text is.1 is.2 is.3 written

pub refused_answer : (lines : FaultLines) (answer : Answer) (s : Status) (before now : Option (List ℕ)) (text : List ℕ) → s ≢ Usage →
    s ≢ Done → s ≢ Denied → s ≢ Exceeded → IsDue lines answer s text → Appends before now text →
    RefusesAnswer lines answer (code_of s) before now
refused_answer lines (Misused line) s before now text usage done denied exceeded is written = absurd (usage is.0)
refused_answer lines (Refused fault) s before now text usage done denied exceeded is written =
    (ap code_of is.0, record { octets = text; report = is.1; written = written })
refused_answer lines (Shown of) s before now text usage done denied exceeded is written = absurd (done is.0)
refused_answer lines (Warned line) s before now text usage done denied exceeded is written = absurd (exceeded is.0)
refused_answer lines (Judged of) s before now text usage done denied exceeded is written =
    absurd (check_is_not is.0 s s is.2 refl (λ e. done (sym e)) (λ e. denied (sym e)))

pub denied_answer : (lines : FaultLines) (answer : Answer) (before now : Option (List ℕ)) (text : List ℕ) → IsDue lines answer Denied text →
    Appends before now text → DeniesAnswer answer before now
denied_answer lines (Misused line) before now text is written = let no = is.0 in absurd (cc)
denied_answer lines (Refused fault) before now text is written = absurd ((of_fault fault).denied (sym is.0))
denied_answer lines (Shown of) before now text is written = let no = is.0 in absurd (cc)
denied_answer lines (Warned line) before now text is written = let no = is.0 in absurd (cc)
denied_answer lines (Judged of) before now text is written =
    (is.0, is.1, sym is.2, subst (λ l. Appends before now l) is.3 written)

pub warned_answer : (lines : FaultLines) (answer : Answer) (before now : Option (List ℕ)) (text : List ℕ) → IsDue lines answer Exceeded text →
    Appends before now text → WarnsAnswer answer before now
warned_answer lines (Misused line) before now text is written = let no = is.0 in absurd (cc)
warned_answer lines (Refused fault) before now text is written = absurd ((of_fault fault).exceeded (sym is.0))
warned_answer lines (Shown of) before now text is written = let no = is.0 in absurd (cc)
warned_answer lines (Warned line) before now text is written = subst (λ l. Appends before now l) is.1 written
warned_answer lines (Judged of) before now text is written =
    absurd (check_is_not is.0 Exceeded Exceeded is.2 refl (λ x. cc) (λ x. cc))

-- the line of a read that failed
pub line_said : (lines : FaultLines) (answer : Answer) (says : Status) (text : List ℕ) → says ≡ ReadFault → IsSaid lines answer says text →
    IsReadLine lines text
line_said lines (Misused line) says text e (inl (inl due)) = let no : ReadFault ≡ Usage = sym e ∙ due.0 in absurd (cc)
line_said lines (Refused fault) says text e (inl (inl due)) = (fault, sym due.0 ∙ e, due.1)
line_said lines (Shown of) says text e (inl (inl due)) = let no : ReadFault ≡ Done = sym e ∙ due.0 in absurd (cc)
line_said lines (Warned line) says text e (inl (inl due)) = let no : ReadFault ≡ Exceeded = sym e ∙ due.0 in absurd (cc)
line_said lines (Judged of) says text e (inl (inl due)) =
    absurd (check_is_not due.0 says ReadFault due.2 e (λ x. cc) (λ x. cc))
line_said lines answer says text e (inl (inr none)) = let no : ReadFault ≡ Memory = sym e ∙ none.0 in absurd (cc)
line_said lines answer says text e (inr line) = line.1

-- the text that it set out to answer
pub some_said : (lines : FaultLines) (wanted : Due) (files : FilesDid) (sink : SinkDid) (s : Status)
    (ends : Ends lines wanted files sink s) → IsSaid lines wanted.answer ends.says ends.text →
    (ends.text ≡ []) ⊎ (IsReadLine lines ends.text × Rose files.faults files.later × (wanted.names ≢ []))
    ⊎ ((says : Status) × IsDue lines wanted.answer says ends.text)
some_said lines wanted files sink s ends (inl (inl is)) = inr (inr (ends.says, is))
some_said lines wanted files sink s ends (inl (inr none)) = inl none.1
some_said lines wanted files sink s ends (inr line) =
    inr (inl (line.1, ends.asks.rose line.0, ends.asks.opens line.0))

-- THE STATUS

pub status_said : (lines : FaultLines) (wanted : Due) (s says : Status) (text : List ℕ) →
    (s ≡ says) ⊎ (s ≡ WriteFault) ⊎ (s ≡ Memory) → (says ≡ ReadFault → wanted.names ≢ []) →
    IsSaid lines wanted.answer says text → IsStatusOf lines wanted (code_of s)
status_said lines wanted s says text (inl e) opens (inl (inl due)) = inl (says, text, due, ap code_of e)
status_said lines wanted s says text (inl e) opens (inl (inr none)) = inr (inr (inr (ap code_of (e ∙ none.0))))
status_said lines wanted s says text (inl e) opens (inr line) = inr (inl (ap code_of (e ∙ line.0), opens line.0))
status_said lines wanted s says text (inr (inl e)) opens is = inr (inr (inl (ap code_of e)))
status_said lines wanted s says text (inr (inr e)) opens is = inr (inr (inr (ap code_of e)))

-- no usage line is due of a stage
pub stage_usage : (lines : FaultLines) (is : Stage → List ℕ → Type 0) (r : Reading) (text : List ℕ) → IsDue lines (answer_for is r) Usage text → ⊥
stage_usage lines is (Ok stage) text due = let no = due.0 in cc
stage_usage lines is (Err fault) text due = (of_fault fault).usage (sym due.0)

-- nor a text that says that the words ask about more than the script allows
pub stage_exceeded : (lines : FaultLines) (is : Stage → List ℕ → Type 0) (r : Reading) (text : List ℕ) →
    IsDue lines (answer_for is r) Exceeded text → ⊥
stage_exceeded lines is (Ok stage) text due = let no = due.0 in cc
stage_exceeded lines is (Err fault) text due = (of_fault fault).exceeded (sym due.0)

-- a bad script is due where the script's name alone is
capture_names : (lines : FaultLines) (is : Stage → List ℕ → Type 0) (names : Named) (script : Script) (r : Captured) →
    (text : List ℕ) → IsDue lines (answer_for is (with_capture script r)) BadScript text → ⊥
capture_names lines is names script (Ok read) text due = let no = due.0 in cc
capture_names lines is names script (Err fault) text due = capture_no_script fault (sym due.0)

pub stage_names : (lines : FaultLines) (is : Stage → List ℕ → Type 0) (names : Named) (reads : Reads) (r : Result Script StageFault) →
    (text : List ℕ) → IsDue lines (answer_for is (with_script r (reads.capture names.capture))) BadScript text →
    names_after names r ≡ script_names names.script
stage_names lines is names reads (Ok script) text due =
    absurd (capture_names lines is names script (reads.capture names.capture script.setting.vips) text due)
stage_names lines is names reads (Err fault) text due = refl

-- BY THE EXIT STATUS

module _ (lines : FaultLines) (due : Reads → Due) (told : Octets) (files : FilesDid) (sink : SinkDid) (code : ℕ) where
  abbrev Ended : Type 0
  Ended = Holds told (λ reads. EndsWith lines (due reads) files sink code)

  by_status : (more : Reads → ℕ → Type 0) →
      ((reads : Reads) (s : Status) → code ≡ code_of s → Ends lines (due reads) files sink s →
      more reads (code_of s)) →
      Ended → Holds told (λ reads. more reads code)
  by_status more by ended =
      holds_more told (λ reads. EndsWith lines (due reads) files sink code) (λ reads. more reads code)
      (λ reads e. subst (λ n. more reads n) (sym e.is) (by reads e.status e.is e.ends)) ended

  -- the status of this code
  the : (s t : Status) → code ≡ code_of s → code ≡ code_of t → s ≡ t
  the s t is e = same_code s t (sym is ∙ e)

  pub ended : (status : Status) → code ≡ code_of status →
      Holds told (λ reads. Ends lines (due reads) files sink status) → Ended
  ended status is ends =
      holds_more told (λ reads. Ends lines (due reads) files sink status)
      (λ reads. EndsWith lines (due reads) files sink code)
      (λ reads e. record { status = status; is = is; ends = e }) ends

  pub shown : Ended → code ≡ 0 → Holds told (λ reads. ShowsAnswer (due reads).answer sink.before sink.now)
  shown all e =
      by_status (λ reads n. ShowsAnswer (due reads).answer sink.before sink.now)
      (λ reads s is ends.
      let done = the s Done is e in
      let d = dues lines (due reads) files sink s ends Done (λ x. cc) (λ x. cc) (λ x. cc) done in
      shown_answer lines (due reads).answer sink.before sink.now ends.text d.0 d.1)
      all

  pub status : Ended → Holds told (λ reads. IsStatusOf lines (due reads) code)
  status all =
      by_status (λ reads n. IsStatusOf lines (due reads) n)
      (λ reads s is ends.
      status_said lines (due reads) s ends.says ends.text ends.writes.ends ends.asks.opens ends.said)
      all

  -- no status is greater than this, if none that is due is
  pub known : (most : ℕ) → 6 ≤ most →
      ((reads : Reads) (says : Status) (text : List ℕ) → IsDue lines (due reads).answer says text → code_of says ≤ most) →
      Ended → code ≤ most
  known most six by all = case (status all) where
    case : Holds told (λ reads. IsStatusOf lines (due reads) code) → code ≤ most
    case is = within is.holds where
      within : IsStatusOf lines (due is.reads) code → code ≤ most
      within (inl due) = subst (λ n. n ≤ most) (sym due.3) (by is.reads due.0 due.1 due.2)
      within (inr (inl e)) = omega (arith, six, e.0)
      within (inr (inr (inl e))) = omega (arith, six, e)
      within (inr (inr (inr e))) = omega (arith, six, e)

  -- what follows where a usage line is due
  pub usage : (Fact : Type 0) → ((reads : Reads) (text : List ℕ) → IsDue lines (due reads).answer Usage text → Fact) →
      Ended → code ≡ 1 → Fact
  usage Fact by all e =
      let usage = the all.holds.status Usage all.holds.is e in
      let d = dues lines (due all.reads) files sink all.holds.status all.holds.ends
      Usage (λ x. cc) (λ x. cc) (λ x. cc) usage in
      by all.reads all.holds.ends.text d.0

  read_by : (all : Ended) → code ≡ 2 → all.holds.ends.says ≡ ReadFault
  read_by all e =
      read_said lines (due all.reads) files sink all.holds.status all.holds.ends
      (the all.holds.status ReadFault all.holds.is e)

  -- what follows where a file is named
  pub named : (Fact : Type 0) → ((reads : Reads) → (due reads).names ≢ [] → Fact) → Ended → code ≡ 2 → Fact
  named Fact by all e = by all.reads (all.holds.ends.asks.opens (read_by all e))

  pub read : Ended → code ≡ 2 → Rose files.faults files.later
  read all e = all.holds.ends.asks.rose (read_by all e)

  pub files_kept : Ended → code ≢ 2 → code ≢ 5 → code ≢ 6 → files.later ≡ files.faults
  files_kept all read write memory =
      let is = all.holds.is in
      let ends = all.holds.ends in
      let said = own lines (due all.reads) files sink all.holds.status ends all.holds.status
      (λ e. write (is ∙ ap code_of e)) (λ e. memory (is ∙ ap code_of e)) refl in
      ends.asks.kept (λ e. read (is ∙ ap code_of (said ∙ e))) (λ e. memory (is ∙ ap code_of (said ∙ e)))

  pub write : Ended → code ≡ 5 → Rose sink.faults sink.later
  write all e = all.holds.ends.writes.cause (the all.holds.status WriteFault all.holds.is e)

  pub kept : Ended → code ≢ 5 → sink.later ≡ sink.faults
  kept all not = all.holds.ends.writes.kept (λ e. not (all.holds.is ∙ ap code_of e))

  pub usage_written : (line : List ℕ) → ((reads : Reads) (text : List ℕ) → IsDue lines (due reads).answer Usage text →
      text ≡ line) → Ended → code ≡ 1 → Appends sink.before sink.now line
  usage_written line by all e =
      let usage = the all.holds.status Usage all.holds.is e in
      let d = dues lines (due all.reads) files sink all.holds.status all.holds.ends
      Usage (λ x. cc) (λ x. cc) (λ x. cc) usage in
      subst (λ l. Appends sink.before sink.now l) (by all.reads all.holds.ends.text d.0) d.1

  pub read_written : Ended → code ≡ 2 → Shows (IsReadLine lines) sink.before sink.now
  read_written all e =
      let ends = all.holds.ends in
      let is = the all.holds.status ReadFault all.holds.is e in
      let said = own lines (due all.reads) files sink all.holds.status ends ReadFault (λ x. cc) (λ x. cc) is in
      record {
        octets = ends.text;
        report = line_said lines (due all.reads).answer ends.says ends.text (read_by all e) ends.said;
        written = ends.writes.whole said;
      }

  line_at : Ended → (t : Status) → code ≡ code_of t → t ≢ Usage → t ≢ Done → t ≢ Denied → t ≢ Exceeded →
      t ≢ ReadFault → t ≢ WriteFault → t ≢ Memory → Holds told (λ reads. RefusesAnswer lines (due reads).answer code sink.before sink.now)
  line_at all t e usage done denied exceeded read write memory =
      by_status (λ reads n. RefusesAnswer lines (due reads).answer n sink.before sink.now)
      (λ reads s is ends.
      let same = the s t is e in
      let d = dues lines (due reads) files sink s ends t read write memory same in
      subst (λ says. RefusesAnswer lines (due reads).answer (code_of says) sink.before sink.now) (sym same)
      (refused_answer lines (due reads).answer t sink.before sink.now ends.text usage done denied exceeded d.0 d.1))
      all

  pub line : Ended → (code ≡ 3) ⊎ (code ≡ 4) ⊎ (code ≡ 7) →
      Holds told (λ reads. RefusesAnswer lines (due reads).answer code sink.before sink.now)
  line all (inl e) = line_at all BadCapture e (λ x. cc) (λ x. cc) (λ x. cc) (λ x. cc) (λ x. cc) (λ x. cc) (λ x. cc)
  line all (inr (inl e)) = line_at all BadScript e (λ x. cc) (λ x. cc) (λ x. cc) (λ x. cc) (λ x. cc) (λ x. cc) (λ x. cc)
  line all (inr (inr e)) = line_at all Limit e (λ x. cc) (λ x. cc) (λ x. cc) (λ x. cc) (λ x. cc) (λ x. cc) (λ x. cc)

  pub denied : Ended → code ≡ 8 → Holds told (λ reads. DeniesAnswer (due reads).answer sink.before sink.now)
  denied all e =
      by_status (λ reads n. DeniesAnswer (due reads).answer sink.before sink.now)
      (λ reads s is ends.
      let d = dues lines (due reads) files sink s ends Denied (λ x. cc) (λ x. cc) (λ x. cc) (the s Denied is e) in
      denied_answer lines (due reads).answer sink.before sink.now ends.text d.0 d.1)
      all

  pub exceeded : Ended → code ≡ 9 → Holds told (λ reads. WarnsAnswer (due reads).answer sink.before sink.now)
  exceeded all e =
      by_status (λ reads n. WarnsAnswer (due reads).answer sink.before sink.now)
      (λ reads s is ends.
      let d = dues lines (due reads) files sink s ends Exceeded (λ x. cc) (λ x. cc) (λ x. cc) (the s Exceeded is e) in
      warned_answer lines (due reads).answer sink.before sink.now ends.text d.0 d.1)
      all

  pub part : Ended → (code ≡ 5) ⊎ (code ≡ 6) → Holds told (λ reads. WritesSome lines (due reads) files sink)
  part all e =
      by_status (λ reads n. WritesSome lines (due reads) files sink)
      (λ reads s is ends. record {
        text = ends.text;
        is = some_said lines (due reads) files sink s ends ends.said;
        less = ends.writes.less (by s is e);
      })
      all
    where
      by : (s : Status) → code ≡ code_of s → (code ≡ 5) ⊎ (code ≡ 6) → (s ≡ WriteFault) ⊎ (s ≡ Memory)
      by s is (inl e) = inl (the s WriteFault is e)
      by s is (inr e) = inr (the s Memory is e)

  pub asked : Ended → Holds told (λ reads. (held : ℕ) × AsksPrefix held files (due reads).names)
  asked all =
      by_status (λ reads n. (held : ℕ) × AsksPrefix held files (due reads).names)
      (λ reads s is ends. (ends.asks.held, ends.asks.some)) all

  pub asked_all : Ended → code ≢ 2 → code ≢ 5 → code ≢ 6 →
      Holds told (λ reads. (held : ℕ) × AsksAll held files (due reads).names)
  asked_all all read write memory =
      by_status (λ reads n. (held : ℕ) × AsksAll held files (due reads).names)
      (λ reads s is ends.
      all_asked lines (due reads) files sink s ends s (λ e. read (is ∙ ap code_of e))
      (λ e. write (is ∙ ap code_of e)) (λ e. memory (is ∙ ap code_of e)) refl)
      all

  -- these names are due where a bad script is
  pub script : (names : List (List ℕ)) →
      ((reads : Reads) (text : List ℕ) → IsDue lines (due reads).answer BadScript text → (due reads).names ≡ names) →
      Ended → code ≡ 4 → (held : ℕ) × AsksAll held files names
  script names by all e =
      let bad = the all.holds.status BadScript all.holds.is e in
      let ends = all.holds.ends in
      let d = dues lines (due all.reads) files sink all.holds.status ends
      BadScript (λ x. cc) (λ x. cc) (λ x. cc) bad in
      subst (λ l. (held : ℕ) × AsksAll held files l) (by all.reads ends.text d.0)
      (all_asked lines (due all.reads) files sink all.holds.status ends BadScript (λ x. cc) (λ x. cc) (λ x. cc) bad)

  pub complete : Ended → IsAccepted lines due told →
      (code ≡ 0) ⊎ (code ≡ 6) ⊎ Rose files.faults files.later ⊎ Rose sink.faults sink.later
  complete all accepted = by (status all) where
    by : Holds told (λ reads. IsStatusOf lines (due reads) code) →
        (code ≡ 0) ⊎ (code ≡ 6) ⊎ Rose files.faults files.later ⊎ Rose sink.faults sink.later
    by is = case is.holds where
      case : IsStatusOf lines (due is.reads) code →
          (code ≡ 0) ⊎ (code ≡ 6) ⊎ Rose files.faults files.later ⊎ Rose sink.faults sink.later
      case (inl due) = inl (due.3 ∙ ap code_of (accepted is.reads is.known due.0 due.1 due.2))
      case (inr (inl e)) = inr (inr (inl (read all e.0)))
      case (inr (inr (inl e))) = inr (inr (inr (write all e)))
      case (inr (inr (inr e))) = inr (inl e)

-- ALL CLAUSES

-- any other status that is due is at most 8
pub due_below : (lines : FaultLines) (answer : Answer) → ((text : List ℕ) → IsDue lines answer Exceeded text → ⊥) → (says : Status)
    (text : List ℕ) → IsDue lines answer says text → code_of says ≤ 8
due_below lines answer not says text is = code_below says (λ e. not text (subst (λ s. IsDue lines answer s text) e is))

-- what is due by the form of the words
pub record ByForm {A : Type 0} (program : Program A) (form : Option A) : Type 0 where
  -- the usage line is due for the words of no form alone
  pub misused : (reads : Reads) (text : List ℕ) → IsDue (program.lines form) (program.due form reads).answer Usage text → form ≡ None
  pub usage : (reads : Reads) (text : List ℕ) → IsDue (program.lines form) (program.due form reads).answer Usage text →
      text ≡ program.usage
  -- no file is named by the words of no form
  pub named : (reads : Reads) → (program.due form reads).names ≢ [] → IsSome form
  -- the script's name alone is due where a bad script is
  pub script : (reads : Reads) (text : List ℕ) → IsDue (program.lines form) (program.due form reads).answer BadScript text →
      (program.due form reads).names ≡ program.scripts form
  -- no status is greater than this
  pub most : 6 ≤ program.greatest
  pub within : (reads : Reads) (says : Status) (text : List ℕ) → IsDue (program.lines form) (program.due form reads).answer says text →
      code_of says ≤ program.greatest

pub is_program : {A : Type 0} (program : Program A) (form : Option A) (told : Octets) (files : FilesDid)
    (sink : SinkDid) (s : Status) (code : ℕ) → ByForm program form → code ≡ code_of s →
    Holds told (λ reads. Ends (program.lines form) (program.due form reads) files sink s) → IsProgram program form told files sink code
is_program program form told files sink s code by is holds =
    let lines = program.lines form in
    let due = program.due form in
    let all = ended lines due told files sink code s is holds in
    record {
      ends = all;
      status = status lines due told files sink code all;
      complete = complete lines due told files sink code all;
      known = known lines due told files sink code program.greatest by.most by.within all;
      misused = usage lines due told files sink code (form ≡ None) by.misused all;
      named = named lines due told files sink code (IsSome form) by.named all;
      read = read lines due told files sink code all;
      unfailed = files_kept lines due told files sink code all;
      write = write lines due told files sink code all;
      kept = kept lines due told files sink code all;
      usage_line = usage_written lines due told files sink code program.usage by.usage all;
      read_line = read_written lines due told files sink code all;
      line = line lines due told files sink code all;
      denied = denied lines due told files sink code all;
      exceeded = exceeded lines due told files sink code all;
      part = part lines due told files sink code all;
      asked = asked lines due told files sink code all;
      all = asked_all lines due told files sink code all;
      script = script lines due told files sink code (program.scripts form) by.script all;
    }
