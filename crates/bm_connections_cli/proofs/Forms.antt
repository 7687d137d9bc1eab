-- What is due for the words.
use Rattle.std.proofs.Common.{◌≡◌, ◌≢◌, ◌≤◌, ℕ, List, [], Option, Some, None, IsSome, Result, Ok, Err, Bool, true}
use Rattle.std.proofs.Common.{false}
use Rattle.std.proofs.Common.{refl, sym, subst, arith, ◌∙◌}
use Rattle.bm_table.specs.declared.script.Script.{Script}
use Rattle.bm_lifetime.specs.Lifetime.{explained}
use Rattle.bm_cli.specs.declared.fault.StageFault.{StageFault}
use Rattle.bm_cli.specs.declared.mode.Mode.TheVariants.{Replay}
use Rattle.bm_cli.specs.declared.status.Status.{Status}
use Rattle.bm_cli.specs.declared.status.Status.TheVariants.{Done, Usage, ReadFault, BadCapture, BadScript, WriteFault}
use Rattle.bm_cli.specs.declared.status.Status.TheVariants.{Memory, Limit, Denied, Exceeded}
use Rattle.bm_cli.specs.Dues.{IsDue, answer_by}
use Rattle.bm_cli.specs.Ends.{Ends}
use Rattle.bm_cli.specs.Lines.{FaultLines}
use Rattle.bm_cli.specs.Program.{IsProgram}
use Rattle.bm_cli.specs.Reading.{Holds, Octets, Reads, reading, script_by, verbs_for}
use Rattle.bm_cli.specs.Statuses.{FilesDid, SinkDid, code_of}
use Rattle.bm_cli.specs.Top.{AsksNone, ShowsAnswer}
use Rattle.bm_cli.proofs.Ending.{nothing}
use Rattle.bm_cli.proofs.Faults.{of_fault}
use Rattle.bm_cli.proofs.Forms.{replay_named}
use Rattle.bm_cli.proofs.Laws.{ByForm, ended, is_program, shown, stage_names, stage_usage}
use Rattle.bm_connections_cli.specs.Dues.{IsShownBy, clock_of, due}
use Rattle.bm_connections_cli.specs.Help.{usage_line}
use Rattle.bm_connections_cli.specs.Faults.{lines_for}
use Rattle.bm_connections_cli.specs.Lifetime.{explained_text, lifetime_answer, outlives, shown_or_warned}
use Rattle.bm_connections_cli.specs.Program.{beamer_connections}
use Rattle.bm_connections_cli.specs.Sinks.{HoldsOfOne}
use Rattle.bm_connections_cli.specs.Top.{scripts_in}
use Rattle.bm_words.specs.Form.{Named}
use Rattle.bm_connections_words.specs.Options.{Options}
use Rattle.bm_connections_words.specs.Words.{Asked, Connections, Help, Lifetime, Version}
use Rattle.bm_connections_cli.specs.Inside.Ends.{EndsForm}
use Rattle.bm_connections_cli.proofs.Ending.{of_one, of_out}

-- no usage line is due of a script
lines_usage : (lines : FaultLines) (warned : Bool) (text octets : List ℕ) →
    IsDue lines (shown_or_warned warned text) Usage octets → ⊥
lines_usage lines false text octets is = let no = is.0 in cc
lines_usage lines true text octets is = let no = is.0 in cc

script_usage : (lines : FaultLines) (seconds : Option ℕ) (r : Result Script StageFault) (text : List ℕ) →
    IsDue lines (answer_by (lifetime_answer seconds) r) Usage text → ⊥
script_usage lines seconds (Ok script) text is =
    lines_usage lines (outlives seconds (explained script)) (explained_text script.setting.timeout
    (explained script)) text is
script_usage lines seconds (Err fault) text is = (of_fault fault).usage (sym is.0)

-- the usage line is due for the words of no form alone
usage_form : (form : Option Asked) (reads : Reads) (text : List ℕ) →
    IsDue (lines_for form) (due form reads).answer Usage text →
    form ≡ None
usage_form None reads text is = refl
usage_form (Some (Connections names options)) reads text is =
    absurd (stage_usage (lines_for (Some (Connections names options))) (IsShownBy options (clock_of options.clock names reads) (verbs_for reads names.script)) (reading Replay names reads) text is)
usage_form (Some (Lifetime script seconds)) reads text is =
    absurd (script_usage (lines_for (Some (Lifetime script seconds))) seconds (reads.script script) text is)
usage_form (Some Help) reads text is = absurd (let no = is.0 in cc)
usage_form (Some Version) reads text is = absurd (let no = is.0 in cc)

usage_text : (form : Option Asked) (reads : Reads) (text : List ℕ) →
    IsDue (lines_for form) (due form reads).answer Usage text →
    text ≡ usage_line
usage_text None reads text is = is.1
usage_text (Some asked) reads text is =
    let no : Some asked ≡ None = usage_form (Some asked) reads text is in absurd (cc)

-- no file is named by the words of no form
named_form : (form : Option Asked) (reads : Reads) → (due form reads).names ≢ [] → IsSome form
named_form None reads opens = absurd (opens refl)
named_form (Some asked) reads opens = refl

-- a file is asked for by the words of each form with a file
pub report_asks : (names : Named) (options : Options) → AsksNone (due (Some (Connections names options))) → ⊥
report_asks names options none = replay_named names.capture names.script nothing (none nothing)

pub lifetime_asks : (script : List ℕ) (seconds : Option ℕ) → AsksNone (due (Some (Lifetime script seconds))) → ⊥
lifetime_asks script seconds none = let no = none nothing in cc

-- the script's name alone is due where a bad script is
script_form : (form : Option Asked) (reads : Reads) (text : List ℕ) →
    IsDue (lines_for form) (due form reads).answer BadScript text →
    (due form reads).names ≡ scripts_in form
script_form None reads text is = absurd (let no = is.0 in cc)
script_form (Some (Connections names options)) reads text is =
    stage_names (lines_for (Some (Connections names options))) (IsShownBy options (clock_of options.clock names reads) (verbs_for reads names.script)) names reads
    (script_by Replay reads names.script) text is
script_form (Some (Lifetime script seconds)) reads text is = refl
script_form (Some Help) reads text is = absurd (let no = is.0 in cc)
script_form (Some Version) reads text is = absurd (let no = is.0 in cc)

-- no status is greater
code_most : (s : Status) → code_of s ≤ 9
code_most Done = omega arith
code_most Usage = omega arith
code_most ReadFault = omega arith
code_most BadCapture = omega arith
code_most BadScript = omega arith
code_most WriteFault = omega arith
code_most Memory = omega arith
code_most Limit = omega arith
code_most Denied = omega arith
code_most Exceeded = omega arith

pub by_form : (form : Option Asked) → ByForm beamer_connections form
by_form form = record {
  misused = usage_form form;
  usage = usage_text form;
  named = named_form form;
  script = script_form form;
  most = omega arith;
  within = λ reads says text is. code_most says;
}

-- THE CLAUSES

-- how the call ended, on one of the two sinks
abbrev Ended : Option Asked → Octets → FilesDid → Status → SinkDid → Type 0
Ended form told files status sink =
    Holds told (λ reads. Ends (lines_for form) (due form reads) files sink status)

pub of_form : (form : Option Asked) (told : Octets) (files : FilesDid) (out faults : SinkDid) (status : Status)
    (code : ℕ) → code ≡ code_of status → EndsForm form told files out faults status →
    HoldsOfOne (λ sink. IsProgram beamer_connections form told files sink code) out faults code
of_form form told files out faults status code is ends =
    of_one (Ended form told files status)
    (λ sink. IsProgram beamer_connections form told files sink code) out faults code
    (λ sink h. is_program beamer_connections form told files sink status code (by_form form) is h)
    (subst (HoldsOfOne (Ended form told files status) out faults) (sym is) ends)

-- with status 0 the answer went to `out`
pub shown_form : (form : Option Asked) (told : Octets) (files : FilesDid) (out faults : SinkDid) (status : Status)
    (code : ℕ) → code ≡ code_of status → EndsForm form told files out faults status → code ≡ 0 →
    Holds told (λ reads. ShowsAnswer (due form reads).answer out.before out.now)
shown_form form told files out faults status code is ends none =
    shown (lines_for form) (due form) told files out code
    (ended (lines_for form) (due form) told files out code status is
    (of_out (Ended form told files status) out faults (code_of status) ends (sym is ∙ none)))
    none
