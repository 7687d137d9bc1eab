-- How a call ends, by what was read and what was written.
use Rattle.std.proofs.Common.{◌≡◌, ◌≢◌, ◌⊎◌, inl, inr, ℕ, List, Option, None, Some, Result, Ok, Err, Bool, true, false}
use Rattle.std.proofs.Common.{refl, sym, subst, ap, ap₂, ◌∙◌}
use Rattle.std.specs.Prelude.{if◌then◌else◌, map, ⊤}
use Rattle.bm_io.specs.declared.opening.Opening.{Opening}
use Rattle.bm_core.specs.declared.events.Event.{Event}
use Rattle.bm_core.specs.declared.events.History.{History}
use Rattle.bm_core.specs.declared.events.Stage.{Stage}
use Rattle.bm_script.specs.declared.verbs.ChangeVerb.{ChangeVerb}
use Rattle.bm_table.specs.declared.script.Script.{Script}
use Rattle.bm_lifetime.specs.declared.explained.Lifetime.{Lifetime as Lived}
use Rattle.bm_lifetime.specs.Lifetime.{explained}
use Rattle.bm_core.specs.Rules.{setting_fate, setting_mux}
use Rattle.bm_core.proofs.Determined.{replay_law}
use Rattle.bm_cli.specs.declared.fault.StageFault.{StageFault}
use Rattle.bm_cli.specs.declared.mode.Mode.TheVariants.{Replay}
use Rattle.bm_cli.specs.declared.status.Status.{Status}
use Rattle.bm_cli.specs.declared.status.Status.TheVariants.{Done, Exceeded, Memory, ReadFault, Usage, WriteFault}
use Rattle.bm_cli.specs.Dues.{Answer, Due, IsDue, Misused, Refused, Shown, answer_by, answer_for, due_of_stage}
use Rattle.bm_cli.specs.Ends.{Ends, IsOf}
use Rattle.bm_cli.specs.Lines.{FaultLines}
use Rattle.bm_cli.specs.Stages.{ReadsNamed, ReadsStage}
use Rattle.bm_cli.specs.Telling.{Tells}
use Rattle.bm_cli.specs.Reading.{Holds, Octets, Reading, Reads, verbs_for}
use Rattle.bm_cli.specs.Statuses.{FilesDid, SinkDid, Writes, code_of}
use Rattle.bm_cli.proofs.Ending.{IsUnread, ends_stage, holds_more, unread_ends}
use Rattle.bm_cli.proofs.Faults.{IsSilent, of_fault}
use Rattle.bm_cli.proofs.NamedScripts.{script_ends}
use Rattle.bm_cli.proofs.Statuses.{same_code}
use Rattle.bm_cli.proofs.Telling.{tells_due, untouched}
use Rattle.bm_words.specs.Form.{Named}
use Rattle.bm_connections.specs.Base.{base_of, is_whole}
use Rattle.bm_connections.specs.Connections.{connections}
use Rattle.bm_connections_cli.specs.Dues.{clock_of, due, due_of, due_text}
use Rattle.bm_connections_cli.specs.Help.{usage_line}
use Rattle.bm_connections_cli.specs.Faults.{file_of, lines_for, names_file}
use Rattle.bm_connections_cli.specs.Headline.{IsOfReplays, IsReplayOf}
use Rattle.bm_connections_cli.specs.Lifetime.{explained_text, lifetime_answer, outlives, shown_or_warned}
use Rattle.bm_connections_cli.specs.Inside.Replays.{AreReplays}
use Rattle.bm_connections_cli.specs.Sinks.{HoldsOfOne}
use Rattle.bm_connections_words.specs.Words.{Asked, Lifetime}
use Rattle.bm_connections_cli.specs.Inside.Ends.{EndsForm, no_lines}
use Rattle.bm_connections_cli.specs.Inside.Lifetime.{status_for}

-- THE REPLAY

history_is : (a b : History) → a.stage ≡ b.stage → a.events ≡ b.events → a ≡ b
history_is a b stages events =
    let made : Stage → List Event → History = λ s e. record { stage = s; events = e } in ap₂ made stages events

-- a stage has one replay
pub same_replay : (stage : Stage) (a b : History) → IsReplayOf stage a → IsReplayOf stage b → a ≡ b
same_replay stage a b p q =
    let setting = stage.script.setting in
    let stages = p.0 ∙ sym q.0 in
    history_is a b stages (replay_law a b stages (setting_mux setting) (setting_fate setting) p.1 q.1)

-- what follows from two replays follows from all
pub of_replays : {A : Type 0} (of : History → List Bool → A) (stage : Stage) (h : History) (wholes : List Bool) →
    AreReplays stage h wholes →
    IsOfReplays (λ g b. of g (map is_whole (connections b))) stage (of h wholes)
of_replays of stage h wholes both = record {
  history = h;
  replay = both.replay;
  base = both.base;
  base_replay = both.base_replay;
  follows = λ other base is base_is.
      ap (of h) both.whole
      ∙ ap₂ (λ g b. of g (map is_whole (connections b))) (same_replay stage h other both.replay is)
      (same_replay (base_of stage) both.base base both.base_replay base_is);
}

-- ONE OF TWO SINKS

-- nothing is told where memory was refused
pub lines_silent : (form : Option Asked) → IsSilent (lines_for form)
lines_silent None fault text memory is = absurd is
lines_silent (Some asked) fault text memory is = absurd (is.0 memory)

-- an answer that is no fault is told in any way
pub shown_told : (lines : FaultLines) (is : List ℕ → Type 0) (sink : SinkDid) (result : Status) →
    Tells no_lines (Shown is) sink result → Tells lines (Shown is) sink result
shown_told lines is sink result t = record { says = t.says; text = t.text; is = t.is; writes = t.writes }

-- the fault of the file that is named
pub fault_told : (asked : Asked) (name : List ℕ) (fault : StageFault) (sink : SinkDid) (result : Status) →
    name ≡ file_of asked fault → Tells (names_file name) (Refused fault) sink result →
    Tells (lines_for (Some asked)) (Refused fault) sink result
fault_told asked name fault sink result same t = record {
  says = t.says;
  text = t.text;
  is = subst (λ (n : List ℕ). IsOf (names_file n) (Refused fault) t.says t.text) same t.is;
  writes = t.writes;
}

-- this status is one of an answer that went to `out`
abbrev IsAnswer : Status → Type 0
IsAnswer s = (s ≡ Done) ⊎ (s ≡ Exceeded) ⊎ (s ≡ WriteFault) ⊎ (s ≡ Memory)

answer_code : (s : Status) → IsAnswer s → (code_of s ≡ 0) ⊎ (code_of s ≡ 9) ⊎ (code_of s ≡ 5) ⊎ (code_of s ≡ 6)
answer_code s (inl e) = inl (ap code_of e)
answer_code s (inr (inl e)) = inr (inl (ap code_of e))
answer_code s (inr (inr (inl e))) = inr (inr (inl (ap code_of e)))
answer_code s (inr (inr (inr e))) = inr (inr (inr (ap code_of e)))

-- the status of an answer that is told
told_answer : (lines : FaultLines) (answer : Answer) (sink : SinkDid) (result : Status) →
    ((says : Status) (text : List ℕ) → IsDue lines answer says text → IsAnswer says) →
    Tells lines answer sink result → IsAnswer result
told_answer lines answer sink result by t = of t.writes.ends t.is where
  of : (result ≡ t.says) ⊎ (result ≡ WriteFault) ⊎ (result ≡ Memory) → IsOf lines answer t.says t.text →
      IsAnswer result
  of (inl e) (inl due) = subst IsAnswer (sym e) (by t.says t.text due)
  of (inl e) (inr none) = inr (inr (inr (e ∙ none.0)))
  of (inr (inl e)) is = inr (inr (inl e))
  of (inr (inr e)) is = inr (inr (inr e))

pub told_fault : (lines : FaultLines) (answer : Answer) (sink : SinkDid) (result t : Status) → WriteFault ≢ t →
    Memory ≢ t → ((says : Status) (text : List ℕ) → IsDue lines answer says text → says ≢ t) →
    Tells lines answer sink result → code_of result ≢ code_of t
told_fault lines answer sink result t write memory by told =
    λ e. of (same_code result t e) told.writes.ends told.is where
      of : result ≡ t → (result ≡ told.says) ⊎ (result ≡ WriteFault) ⊎ (result ≡ Memory) →
          IsOf lines answer told.says told.text → ⊥
      of is (inl e) (inl due) = by told.says told.text due (sym e ∙ is)
      of is (inl e) (inr none) = memory (sym none.0 ∙ sym e ∙ is)
      of is (inr (inl e)) said = write (sym e ∙ is)
      of is (inr (inr e)) said = memory (sym e ∙ is)

-- what was asked for went to `out`
pub to_out : (answer : Answer) (holds : SinkDid → Type 0) (out : SinkDid) (before : Option (List ℕ)) (faults : ℕ)
    (result : Status) → ((says : Status) (text : List ℕ) → IsDue no_lines answer says text → IsAnswer says) →
    Tells no_lines answer out result → holds out → HoldsOfOne holds out (untouched before faults) (code_of result)
to_out answer holds out before faults result by tells h =
    inl (h, (refl, refl), answer_code result (told_answer no_lines answer out result by tells))

-- the line of a fault, or of words of no form, went to `faults`
pub to_faults : (lines : FaultLines) (answer : Answer) (holds : SinkDid →
    Type 0) (before : Option (List ℕ)) (faults : ℕ)
    (sink : SinkDid) (result : Status) →
    ((says : Status) (text : List ℕ) → IsDue lines answer says text → (says ≢ Done) × (says ≢ Exceeded)) →
    Tells lines answer sink result → holds sink → HoldsOfOne holds (untouched before faults) sink (code_of result)
to_faults lines answer holds before faults sink result by tells h =
    inr (
      h,
      (refl, refl),
      told_fault lines answer sink result Done (λ e. cc) (λ e. cc) (λ says text is. (by says text is).0) tells,
      told_fault lines answer sink result Exceeded (λ e. cc) (λ e. cc) (λ says text is. (by says text is).1) tells,
    )

-- a text that is shown
shown_done : (is : List ℕ → Type 0) (says : Status) (text : List ℕ) → IsDue no_lines (Shown is) says text →
    IsAnswer says
shown_done is says text due = inl due.0

-- a fault
pub fault_not : (lines : FaultLines) (fault : StageFault) (says : Status) (text : List ℕ) →
    IsDue lines (Refused fault) says text → (says ≢ Done) × (says ≢ Exceeded)
fault_not lines fault says text due =
    (λ e. (of_fault fault).done (sym due.0 ∙ e), λ e. (of_fault fault).exceeded (sym due.0 ∙ e))

-- A STAGE

module _ (asked : Asked) (is : Option ℕ → List ChangeVerb → Stage → List ℕ → Type 0) (clock : Bool) (names : Named) where
  -- what is due of the stage
  abbrev wanted : Reads → Due
  wanted reads = due_of_stage Replay (is (clock_of clock names reads) (verbs_for reads names.script)) names reads

  abbrev Ended : Octets → FilesDid → Status → SinkDid → Type 0
  Ended told files result sink =
      Holds told (λ reads. Ends (lines_for (Some asked)) (wanted reads) files sink result)

  -- what was read of a stage was answered
  ends_played : (reads : Reads) (files : FilesDid) (sink : SinkDid) (r : Reading) (result : Status) →
      ReadsStage Replay names reads files r →
      Tells (lines_for (Some asked)) (answer_for (is (clock_of clock names reads) (verbs_for reads names.script)) r) sink result →
      Ends (lines_for (Some asked)) (wanted reads) files sink result
  ends_played reads files sink r result read tells =
      ends_stage (lines_for (Some asked)) (lines_silent (Some asked)) Replay
      (is (clock_of clock names reads) (verbs_for reads names.script)) names reads files sink r result read tells

  -- the text of a stage was told, by the clock and the verbs that are due
  told_with : (reads : Reads) (sink : SinkDid) (result : Status) (stage : Stage) (began : ℕ) (by : Option ℕ)
      (verbs : List ChangeVerb) → by ≡ (if clock then Some began else None) → began ≡ reads.began names.capture →
      verbs ≡ verbs_for reads names.script → Tells no_lines (Shown (is by verbs stage)) sink result →
      Tells (lines_for (Some asked)) (answer_for (is (clock_of clock names reads) (verbs_for reads names.script))
      (Ok stage)) sink result
  told_with reads sink result stage began by verbs same began_is verbs_is tells =
      let lines = lines_for (Some asked) in
      subst (λ (vs : List ChangeVerb). Tells lines (Shown (is (clock_of clock names reads) vs stage)) sink result)
      verbs_is
      (subst (λ (b : ℕ). Tells lines (Shown (is (if clock then Some b else None) verbs stage)) sink result) began_is
      (subst (λ (k : Option ℕ). Tells lines (Shown (is k verbs stage)) sink result) same
      (shown_told lines (is by verbs stage) sink result tells)))

  pub played_ends : (told : Octets) (files : FilesDid) (sink : SinkDid) (before : Option (List ℕ)) (faults : ℕ)
      (stage : Stage) (began : ℕ) (by : Option ℕ) (verbs : List ChangeVerb) (result : Status) →
      by ≡ (if clock then Some began else None) →
      Holds told (λ reads. ReadsStage Replay names reads files (Ok stage)
      × ((began ≡ reads.began names.capture) × (verbs ≡ verbs_for reads names.script))) →
      Tells no_lines (Shown (is by verbs stage)) sink result →
      HoldsOfOne (Ended told files result) sink (untouched before faults) (code_of result)
  played_ends told files sink before faults stage began by verbs result same read tells =
      to_out (Shown (is by verbs stage)) (Ended told files result) sink before faults result
      (shown_done (is by verbs stage)) tells
      (holds_more told
      (λ reads. ReadsStage Replay names reads files (Ok stage)
      × ((began ≡ reads.began names.capture) × (verbs ≡ verbs_for reads names.script)))
      (λ reads. Ends (lines_for (Some asked)) (wanted reads) files sink result)
      (λ reads h. ends_played reads files sink (Ok stage) result h.0
      (told_with reads sink result stage began by verbs same h.1.0 h.1.1 tells)) read)

  -- the line of a fault was told
  pub refused_ends : (told : Octets) (files : FilesDid) (before : Option (List ℕ)) (faults : ℕ) (sink : SinkDid)
      (fault : StageFault) (name : List ℕ) (result : Status) → name ≡ file_of asked fault →
      Holds told (λ reads. ReadsStage Replay names reads files (Err fault) × ⊤) →
      Tells (names_file name) (Refused fault) sink result →
      HoldsOfOne (Ended told files result) (untouched before faults) sink (code_of result)
  refused_ends told files before faults sink fault name result same read tells =
      let named = fault_told asked name fault sink result same tells in
      to_faults (lines_for (Some asked)) (Refused fault) (Ended told files result) before faults sink result
      (fault_not (lines_for (Some asked)) fault) named
      (holds_more told (λ reads. ReadsStage Replay names reads files (Err fault) × ⊤)
      (λ reads. Ends (lines_for (Some asked)) (wanted reads) files sink result)
      (λ reads both. ends_played reads files sink (Err fault) result (both.0) named) read)

-- A LIFETIME

-- lines are due with a status of their own
lines_unread : (lines : FaultLines) (warned : Bool) (text : List ℕ) → IsUnread lines (shown_or_warned warned text)
lines_unread lines false text says octets is e = let no : ReadFault ≡ Done = sym e ∙ is.0 in cc
lines_unread lines true text says octets is e = let no : ReadFault ≡ Exceeded = sym e ∙ is.0 in cc

lines_answer : (warned : Bool) (text : List ℕ) (says : Status) (octets : List ℕ) →
    IsDue no_lines (shown_or_warned warned text) says octets → IsAnswer says
lines_answer false text says octets is = inl is.0
lines_answer true text says octets is = inr (inl is.0)

-- they are told in any way
lines_any : (lines : FaultLines) (warned : Bool) (text : List ℕ) (sink : SinkDid) (result : Status) →
    Tells no_lines (shown_or_warned warned text) sink result → Tells lines (shown_or_warned warned text) sink result
lines_any lines false text sink result t = record { says = t.says; text = t.text; is = t.is; writes = t.writes }
lines_any lines true text sink result t = record { says = t.says; text = t.text; is = t.is; writes = t.writes }

-- what was read of a script was answered
lifetime_ends : (name : List ℕ) (seconds : Option ℕ) (told : Octets) (files : FilesDid) (sink : SinkDid)
    (r : Result Script StageFault) (result : Status) → Holds told (λ reads. ReadsNamed name reads files r) →
    Tells (lines_for (Some (Lifetime name seconds))) (answer_by (lifetime_answer seconds) r) sink result →
    Holds told
    (λ reads. Ends (lines_for (Some (Lifetime name seconds))) (due_of (Lifetime name seconds) reads) files sink result)
lifetime_ends name seconds told files sink r result read tells =
    let lines = lines_for (Some (Lifetime name seconds)) in
    script_ends lines (lines_silent (Some (Lifetime name seconds))) (lifetime_answer seconds)
    (λ script. lines_unread lines (outlives seconds (explained script))
    (explained_text script.setting.timeout (explained script)))
    name told files sink r result read tells

pub lifetime_shown : (name : List ℕ) (seconds : Option ℕ) (told : Octets) (files : FilesDid) (sink : SinkDid)
    (before : Option (List ℕ)) (faults : ℕ) (script : Script) (result : Status) →
    Holds told (λ reads. ReadsNamed name reads files (Ok script)) →
    Tells no_lines (lifetime_answer seconds script) sink result →
    EndsForm (Some (Lifetime name seconds)) told files sink (untouched before faults) result
lifetime_shown name seconds told files sink before faults script result read tells =
    let warned = outlives seconds (explained script) in
    let text = explained_text script.setting.timeout (explained script) in
    let lines = lines_for (Some (Lifetime name seconds)) in
    to_out (lifetime_answer seconds script)
    (λ s. Holds told (λ reads. Ends lines (due_of (Lifetime name seconds) reads) files s result))
    sink before faults result (lines_answer warned text) tells
    (lifetime_ends name seconds told files sink (Ok script) result read (lines_any lines warned text sink result tells))

pub lifetime_refused : (name : List ℕ) (seconds : Option ℕ) (told : Octets) (files : FilesDid) (before : Option
    (List ℕ))
    (faults : ℕ) (sink : SinkDid) (fault : StageFault) (result : Status) →
    Holds told (λ reads. ReadsNamed name reads files (Err fault)) →
    Tells (names_file name) (Refused fault) sink result →
    EndsForm (Some (Lifetime name seconds)) told files (untouched before faults) sink result
lifetime_refused name seconds told files before faults sink fault result read tells =
    let lines = lines_for (Some (Lifetime name seconds)) in
    let named = fault_told (Lifetime name seconds) name fault sink result refl tells in
    to_faults lines (Refused fault)
    (λ s. Holds told (λ reads. Ends lines (due_of (Lifetime name seconds) reads) files s result))
    before faults sink result (fault_not lines fault) named
    (lifetime_ends name seconds told files sink (Err fault) result read named)

-- the lines were written
lines_told : (warned : Bool) (text : List ℕ) (sink : SinkDid) (result : Status) →
    Writes (status_for warned) text sink result → Tells no_lines (shown_or_warned warned text) sink result
lines_told false text sink result writes =
    tells_due no_lines (shown_or_warned false text) Done text sink result (refl, refl) writes
lines_told true text sink result writes =
    tells_due no_lines (shown_or_warned true text) Exceeded text sink result (refl, refl) writes

pub lifetime_told : (seconds : Option ℕ) (script : Script) (life : Option Lived) (text : List ℕ) (says : Status)
    (sink : SinkDid) (result : Status) → life ≡ explained script → text ≡ explained_text script.setting.timeout life →
    says ≡ status_for (outlives seconds life) → Writes says text sink result →
    Tells no_lines (lifetime_answer seconds script) sink result
lifetime_told seconds script life text says sink result is lines status writes =
    subst (λ l. Tells no_lines (shown_or_warned (outlives seconds l)
    (explained_text script.setting.timeout l)) sink result) is
    (lines_told (outlives seconds life) (explained_text script.setting.timeout life) sink result
    (subst (λ t. Writes (status_for (outlives seconds life)) t sink result) lines
    (subst (λ s. Writes s text sink result) status writes)))

-- THE WORDS

-- what the words ask for was answered
pub words_end : (form words : Option Asked) (told : Octets) (files : FilesDid) (out faults : SinkDid)
    (result : Status) → form ≡ words → EndsForm form told files out faults result →
    EndsForm words told files out faults result
words_end form words told files out faults result same ends =
    subst (λ f. EndsForm f told files out faults result) same ends

usage_not : (says : Status) (text : List ℕ) → IsDue no_lines (Misused usage_line) says text →
    (says ≢ Done) × (says ≢ Exceeded)
usage_not says text is =
    (λ e. let no : Usage ≡ Done = sym is.0 ∙ e in cc, λ e. let no : Usage ≡ Exceeded = sym is.0 ∙ e in cc)

-- the usage line was written
pub usage_ends : (words : Option Asked) (told : Octets) (asked : Option (List Opening)) (fails : ℕ)
    (before : Option (List ℕ)) (faults : ℕ) (sink : SinkDid) (result : Status) → None ≡ words →
    Tells no_lines (Misused usage_line) sink result →
    EndsForm words told (untouched asked fails) (untouched before faults) sink result
usage_ends words told asked fails before faults sink result none tells =
    words_end None words told (untouched asked fails) (untouched before faults) sink result none
    (to_faults no_lines (Misused usage_line)
    (λ s. Holds told (λ reads. Ends (lines_for None) (due None reads) (untouched asked fails) s result))
    before faults sink result usage_not tells
    (unread_ends (lines_for None) (Misused usage_line) told asked fails sink result
    (λ says text is e. let no : ReadFault ≡ Usage = sym e ∙ is.0 in cc)
    (record { says = tells.says; text = tells.text; is = tells.is; writes = tells.writes })))

-- a text for which no file is asked was shown
pub text_ends : (words : Asked) (text : List ℕ) (told : Octets) (asked : Option (List Opening)) (fails : ℕ)
    (sink : SinkDid) (before : Option (List ℕ)) (faults : ℕ) (result : Status) →
    ((reads : Reads) → due_of words reads ≡ due_text text) →
    Tells no_lines (Shown (λ shown. shown ≡ text)) sink result →
    EndsForm (Some words) told (untouched asked fails) sink (untouched before faults) result
text_ends words text told asked fails sink before faults result same tells =
    let is : List ℕ → Type 0 = λ shown. shown ≡ text in
    to_out (Shown is)
    (λ s. Holds told (λ reads. Ends (lines_for (Some words)) (due_of words reads) (untouched asked fails) s result))
    sink before faults result (shown_done is) tells
    (holds_more told
    (λ reads. Ends (lines_for (Some words)) (due_text text) (untouched asked fails) sink result)
    (λ reads. Ends (lines_for (Some words)) (due_of words reads) (untouched asked fails) sink result)
    (λ reads ends. subst (λ d. Ends (lines_for (Some words)) d (untouched asked fails) sink result) (sym (same reads)) ends)
    (unread_ends (lines_for (Some words)) (Shown is) told asked fails sink result
    (λ says shown due e. let no : ReadFault ≡ Done = sym e ∙ due.0 in cc)
    (shown_told (lines_for (Some words)) is sink result tells)))

-- BY THE EXIT STATUS

-- what holds of the sink by how the call ended, and of the other sink nothing was done
pub of_one : (holds more : SinkDid → Type 0) (out faults : SinkDid) (code : ℕ) → ((sink : SinkDid) → holds sink →
    more sink) →
    HoldsOfOne holds out faults code → HoldsOfOne more out faults code
of_one holds more out faults code by (inl h) = inl (by out h.0, h.1, h.2)
of_one holds more out faults code by (inr h) = inr (by faults h.0, h.1, h.2, h.3)

-- with status 0 it is `out`
pub of_out : (holds : SinkDid → Type 0) (out faults : SinkDid) (code : ℕ) → HoldsOfOne holds out faults code →
    code ≡ 0 →
    holds out
of_out holds out faults code (inl h) e = h.0
of_out holds out faults code (inr h) e = absurd (h.2 e)
