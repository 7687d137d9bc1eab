-- What is told of a stage by the options, and whether its changes fail a connection.
use Rattle.std.proofs.Common.{◌≡◌, ◌≢◌, inl, inr, ℕ, List, Option, None, Some, Result, Ok, Err, Bool, true, false}
use Rattle.std.proofs.Common.{refl, sym, subst, ap, arith, ◌∙◌}
use Rattle.std.specs.Prelude.{if◌then◌else◌, map, IsOkAnd}
use Rattle.bm_core.specs.declared.events.History.{History}
use Rattle.bm_core.specs.declared.events.Stage.{Stage}
use Rattle.bm_script.specs.declared.verbs.ChangeVerb.{ChangeVerb}
use Rattle.bm_cli.specs.declared.fault.StageFault.{StageFault}
use Rattle.bm_cli.specs.declared.mode.Mode.TheVariants.{Replay}
use Rattle.bm_cli.specs.declared.status.Status.{Status}
use Rattle.bm_cli.specs.declared.status.Status.TheVariants.{Done, Usage, ReadFault, BadCapture, BadScript, WriteFault}
use Rattle.bm_cli.specs.declared.status.Status.TheVariants.{Memory, Limit, Denied, Exceeded}
use Rattle.bm_cli.specs.Dues.{Refused, Shown}
use Rattle.bm_cli.specs.Ends.{IsOf}
use Rattle.bm_cli.specs.Reading.{Holds, Octets, Reading, Reads, reading}
use Rattle.bm_cli.specs.Stages.{ReadsStage}
use Rattle.bm_cli.specs.Statuses.{FilesDid, SinkDid, Writes, code_of}
use Rattle.bm_cli.specs.Telling.{Tells}
use Rattle.bm_cli.proofs.Ending.{holds_any, holds_more}
use Rattle.bm_cli.proofs.Statuses.{code_within, same_code}
use Rattle.bm_cli.proofs.Telling.{tells_due}
use Rattle.bm_words.specs.Form.{Named}
use Rattle.bm_drawing.specs.Drawing.{drawing}
use Rattle.bm_connections.specs.Base.{compared, compared_with, is_whole}
use Rattle.bm_connections.specs.Connections.{connections}
use Rattle.bm_connections_words.specs.declared.options.Format.{Format}
use Rattle.bm_connections_words.specs.declared.options.Format.TheVariants.{Lines, Csv, Json, Svg}
use Rattle.bm_connections_words.specs.Options.{Chosen, Options, format_in}
use Rattle.bm_connections_words.specs.Words.{Asked, Connections, Help, Lifetime, Version}
use Rattle.bm_connections_cli.specs.declared.failing.Outcome.{Outcome}
use Rattle.bm_connections_cli.specs.Dues.{IsShownBy, shown_by}
use Rattle.bm_connections_cli.specs.Failing.{DoesFail, FailsBy, IsFailed, failed_status, fails_one, plain_status}
use Rattle.bm_connections_cli.specs.Faults.{names_file}
use Rattle.bm_connections_cli.specs.Headline.{IsDrawingOf, IsReplayOf, IsTextOf}
use Rattle.bm_connections_cli.specs.Inside.Ends.{no_lines}
use Rattle.bm_connections_cli.specs.Inside.Outcomes.{Decides, DecidesBy, DecidesRead, FailsIf, outcome_code, told_by}
use Rattle.bm_connections_cli.specs.Inside.Replays.{AreReplays}
use Rattle.bm_connections_cli.proofs.Ending.{fault_not, of_replays, same_replay, told_fault}

-- WHAT IS TOLD

-- what is told of the two replays of a stage is what is to be shown
shown_is : (format : Format) (picked : Option Chosen) (clock : Option ℕ) (verbs : List ChangeVerb) (stage : Stage)
    (octets : List ℕ) → IsTextOf (λ g b. told_by format picked clock verbs g (compared g b)) stage octets →
    shown_by format picked clock verbs stage octets
shown_is Lines None clock verbs stage octets is = is
shown_is Csv None clock verbs stage octets is = is
shown_is Json None clock verbs stage octets is = is
shown_is Svg None clock verbs stage octets is = record {
  history = is.history;
  replay = is.replay;
  drawn = λ h replay. is.follows h is.base replay is.base_replay;
}
shown_is format (Some chosen) clock verbs stage octets is = is

-- the text of these replays was written
pub tells_compared : (options : Options) (clock : Option ℕ) (verbs : List ChangeVerb) (stage : Stage) (h : History)
    (wholes : List Bool) (sink : SinkDid) (result : Status) → AreReplays stage h wholes →
    Writes Done
    (told_by (format_in options.format) options.chosen clock verbs h (compared_with (connections h) wholes))
    sink result →
    Tells no_lines (Shown (IsShownBy options clock verbs stage)) sink result
tells_compared options clock verbs stage h wholes sink result both writes =
    let told = told_by (format_in options.format) options.chosen clock verbs in
    tells_due no_lines (Shown (IsShownBy options clock verbs stage)) Done (told h (compared_with (connections h) wholes))
    sink result (
      refl,
      shown_is (format_in options.format) options.chosen clock verbs stage _
          (of_replays (λ g ws. told g (compared_with (connections g) ws)) stage h wholes both),
    )
    writes

-- the drawing of this replay was written
pub tells_drawing : (clock : Option ℕ) (stage : Stage) (h : History) (sink : SinkDid) (result : Status) →
    IsReplayOf stage h → Writes Done (drawing clock h (connections h)) sink result →
    Tells no_lines (Shown (IsDrawingOf clock stage)) sink result
tells_drawing clock stage h sink result replay writes =
    tells_due no_lines (Shown (IsDrawingOf clock stage)) Done (drawing clock h (connections h)) sink result (
      refl,
      record {
        history = h;
        replay = replay;
        drawn = λ other is. ap (λ g. drawing clock g (connections g)) (same_replay stage h other replay is);
      },
    )
    writes

-- a drawing is what is to be shown
pub drawing_shown : (options : Options) (clock : Option ℕ) (verbs : List ChangeVerb) (stage : Stage) (sink : SinkDid)
    (result : Status) → format_in options.format ≡ Svg → options.chosen ≡ None →
    Tells no_lines (Shown (IsDrawingOf clock stage)) sink result →
    Tells no_lines (Shown (IsShownBy options clock verbs stage)) sink result
drawing_shown options clock verbs stage sink result svg none tells =
    subst (λ (format : Format). Tells no_lines (Shown (shown_by format options.chosen clock verbs stage)) sink result)
    (sym svg)
    (subst (λ (picked : Option Chosen). Tells no_lines (Shown (shown_by Svg picked clock verbs stage)) sink result)
    (sym none) tells)

-- WHETHER THE CHANGES FAIL A CONNECTION

-- by these replays
pub fails_if : (asked : Bool) (stage : Stage) (h : History) (wholes : List Bool) (so : Bool) →
    AreReplays stage h wholes → so ≡ (if asked then fails_one (connections h) wholes else false) →
    FailsIf asked stage so
fails_if false stage h wholes so both is = is
fails_if true stage h wholes so both is =
    subst (DoesFail stage) (sym is) (of_replays (λ g ws. fails_one (connections g) ws) stage h wholes both)

pub decides : (asked : Bool) (stage : Stage) (o : Outcome) → FailsIf asked stage o.fails → Decides asked stage o
decides false stage o is = is
decides true stage o is = λ done. is

-- nothing was told, since memory was refused
pub decides_nothing : (asked : Bool) (stage : Stage) (o : Outcome) → o.status ≡ Memory → o.fails ≡ false →
    Decides asked stage o
decides_nothing false stage o status fails = fails
decides_nothing true stage o status fails = λ done. let no : Memory ≡ Done = sym status ∙ done in absurd (cc)

-- BY WHAT WAS READ

decides_read : (asked : Bool) (read : Reading) (stage : Stage) (o : Outcome) → read ≡ Ok stage →
    Decides asked stage o → DecidesRead asked read o
decides_read false read stage o is decided = decided
decides_read true read stage o is decided =
    λ done. subst (λ (r : Reading). IsOkAnd r (λ s. DoesFail s o.fails)) (sym is) (decided done)

pub played_decides : (names : Named) (options : Options) (told : Octets) (files : FilesDid) (stage : Stage)
    (more : Reads → Type 0) (o : Outcome) →
    Holds told (λ reads. ReadsStage Replay names reads files (Ok stage) × more reads) →
    Decides options.fail stage o → Holds told (λ reads. DecidesBy (Some (Connections names options)) reads o)
played_decides names options told files stage more o read decided =
    holds_more told (λ reads. ReadsStage Replay names reads files (Ok stage) × more reads)
    (λ reads. DecidesBy (Some (Connections names options)) reads o)
    (λ reads h. decides_read options.fail (reading Replay names reads) stage o (h.0).read decided) read

-- the line of a fault isn't told with status 0
refused_read : (asked : Bool) (read : Reading) (o : Outcome) → o.status ≢ Done → o.fails ≡ false →
    DecidesRead asked read o
refused_read false read o not fails = fails
refused_read true read o not fails = λ done. absurd (not done)

pub refused_decides : (names : Named) (options : Options) (told : Octets) (name : List ℕ) (fault : StageFault)
    (sink : SinkDid) (o : Outcome) (status : Status) → o.status ≡ status → o.fails ≡ false →
    Tells (names_file name) (Refused fault) sink status →
    Holds told (λ reads. DecidesBy (Some (Connections names options)) reads o)
refused_decides names options told name fault sink o status is fails tells =
    let not : code_of status ≢ code_of Done =
    told_fault (names_file name) (Refused fault) sink status Done (λ e. cc) (λ e. cc)
    (λ says text due. (fault_not (names_file name) fault says text due).0) tells in
    holds_any told (λ reads. DecidesBy (Some (Connections names options)) reads o)
    (λ reads. refused_read options.fail (reading Replay names reads) o
    (λ done. not (ap code_of (sym is ∙ done))) fails)

-- no other words ask for it
pub misused_decides : (told : Octets) (o : Outcome) → o.fails ≡ false → Holds told (λ reads. DecidesBy None reads o)
misused_decides told o fails = holds_any told (λ reads. DecidesBy None reads o) (λ reads. fails)

pub lifetime_decides : (script : List ℕ) (seconds : Option ℕ) (told : Octets) (o : Outcome) → o.fails ≡ false →
    Holds told (λ reads. DecidesBy (Some (Lifetime script seconds)) reads o)
lifetime_decides script seconds told o fails =
    holds_any told (λ reads. DecidesBy (Some (Lifetime script seconds)) reads o) (λ reads. fails)

pub help_decides : (told : Octets) (o : Outcome) → o.fails ≡ false →
    Holds told (λ reads. DecidesBy (Some Help) reads o)
help_decides told o fails = holds_any told (λ reads. DecidesBy (Some Help) reads o) (λ reads. fails)

pub version_decides : (told : Octets) (o : Outcome) → o.fails ≡ false →
    Holds told (λ reads. DecidesBy (Some Version) reads o)
version_decides told o fails = holds_any told (λ reads. DecidesBy (Some Version) reads o) (λ reads. fails)

-- THE WORDS

pub words_decide : (form words : Option Asked) (told : Octets) (o : Outcome) → form ≡ words →
    Holds told (λ reads. DecidesBy form reads o) → Holds told (λ reads. DecidesBy words reads o)
words_decide form words told o same holds =
    subst (λ f. Holds told (λ reads. DecidesBy f reads o)) same holds

-- THE EXIT STATUS

-- without the option it is that of the status
pub plain_is : (fails : Bool) (status : Status) → plain_status (outcome_code fails status) ≡ code_of status
plain_is false Done = refl
plain_is false Usage = refl
plain_is false ReadFault = refl
plain_is false BadCapture = refl
plain_is false BadScript = refl
plain_is false WriteFault = refl
plain_is false Memory = refl
plain_is false Limit = refl
plain_is false Denied = refl
plain_is false Exceeded = refl
plain_is true Done = refl
plain_is true Usage = refl
plain_is true ReadFault = refl
plain_is true BadCapture = refl
plain_is true BadScript = refl
plain_is true WriteFault = refl
plain_is true Memory = refl
plain_is true Limit = refl
plain_is true Denied = refl
plain_is true Exceeded = refl

-- nothing fails where that isn't asked
not_failed : (fails : Bool) (status : Status) → fails ≡ false → outcome_code fails status ≢ 10
not_failed false status is = λ e. let most = code_within status in absurd (omega (arith, most, e))
not_failed true status is = absurd (cc)

with_done : (fails : Bool) (status : Status) → status ≡ Done → outcome_code fails status ≡ failed_status fails
with_done false status is = ap code_of is
with_done true status is = ap (outcome_code true) is

ok_and : (read : Reading) (fact more : Stage → Type 0) → ((stage : Stage) → fact stage → more stage) →
    IsOkAnd read fact → IsOkAnd read more
ok_and (Ok stage) fact more by h = by stage h
ok_and (Err fault) fact more by h = absurd h

is_failed : (asked : Bool) (read : Reading) (o : Outcome) → DecidesRead asked read o →
    IsFailed asked read (outcome_code o.fails o.status)
is_failed false read o decided = not_failed o.fails o.status decided
is_failed true read o decided = λ plain.
    let done : o.status ≡ Done = same_code o.status Done (sym (plain_is o.fails o.status) ∙ plain) in
    ok_and read (λ stage. DoesFail stage o.fails)
    (λ stage. (so : Bool) × DoesFail stage so × (outcome_code o.fails o.status ≡ failed_status so))
    (λ stage does. (o.fails, does, with_done o.fails o.status done)) (decided done)

by_words : (words : Option Asked) (reads : Reads) (o : Outcome) → DecidesBy words reads o →
    FailsBy words reads (outcome_code o.fails o.status)
by_words None reads o decided = not_failed o.fails o.status decided
by_words (Some (Connections names options)) reads o decided =
    is_failed options.fail (reading Replay names reads) o decided
by_words (Some (Lifetime script seconds)) reads o decided = not_failed o.fails o.status decided
by_words (Some Help) reads o decided = not_failed o.fails o.status decided
by_words (Some Version) reads o decided = not_failed o.fails o.status decided

pub fails_by : (words : Option Asked) (told : Octets) (o : Outcome) (code : ℕ) →
    code ≡ outcome_code o.fails o.status → Holds told (λ reads. DecidesBy words reads o) →
    Holds told (λ reads. FailsBy words reads code)
fails_by words told o code is decided =
    subst (λ n. Holds told (λ reads. FailsBy words reads n)) (sym is)
    (holds_more told (λ reads. DecidesBy words reads o)
    (λ reads. FailsBy words reads (outcome_code o.fails o.status))
    (λ reads by. by_words words reads o by) decided)

-- the exit status without the option
pub plain_code : (o : Outcome) (code : ℕ) → code ≡ outcome_code o.fails o.status → plain_status code ≡ code_of o.status
plain_code o code is = ap plain_status is ∙ plain_is o.fails o.status
