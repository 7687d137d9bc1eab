-- What is due for each form of words.
use Rattle.std.proofs.Common.{◌≡◌, ◌≢◌, ℕ, List, [], Option, Some, None, IsSome, refl, subst, arith}
use Rattle.bm_words.specs.Form.{Asked, Check, Load, Named, Replay, Run, Streams}
use Rattle.bm_cli.specs.declared.mode.Mode.TheVariants.{Replay as by_replay, Run as by_run}
use Rattle.bm_cli.specs.declared.status.Status.TheVariants.{BadScript, Exceeded, Usage}
use Rattle.bm_cli.specs.Beamer.{beamer}
use Rattle.bm_cli.specs.Dues.{IsDue, due, names_after}
use Rattle.bm_cli.specs.Headline.{IsReportOf}
use Rattle.bm_cli.specs.Lines.{beamer_lines, usage_line}
use Rattle.bm_cli.specs.Reading.{Reads, reading, script_by}
use Rattle.bm_cli.specs.Streams.{AreStreams}
use Rattle.bm_cli.specs.Top.{AsksNone, scripts_in}
use Rattle.bm_cli.proofs.Ending.{nothing}
use Rattle.bm_cli.proofs.Stages.{script_named}
use Rattle.bm_cli.proofs.Traces.{check_exceeded, check_names, check_open, check_usage}
use Rattle.bm_cli.proofs.Laws.{ByForm, due_below, stage_exceeded, stage_names, stage_usage}

-- the usage line is due for the words of no form alone
usage_form : (form : Option Asked) (reads : Reads) (text : List ℕ) →
    IsDue beamer_lines (due form reads).answer Usage text →
    form ≡ None
usage_form None reads text is = refl
usage_form (Some (Replay names)) reads text is =
    absurd (stage_usage beamer_lines (IsReportOf by_replay) (reading by_replay names reads) text is)
usage_form (Some (Run capture script)) reads text is =
    absurd (stage_usage beamer_lines (IsReportOf by_run)
    (reading by_run (record { capture = capture; script = Some script }) reads) text is)
usage_form (Some (Streams names)) reads text is =
    absurd (stage_usage beamer_lines (AreStreams names reads) (reading by_replay names reads) text is)
usage_form (Some (Check trace capture script)) reads text is = absurd (check_usage trace capture script reads text is)
usage_form (Some (Load n)) reads text is = absurd (let no = is.0 in cc)

usage_text : (form : Option Asked) (reads : Reads) (text : List ℕ) →
    IsDue beamer_lines (due form reads).answer Usage text →
    text ≡ usage_line
usage_text None reads text is = is.1
usage_text (Some asked) reads text is =
    let no : Some asked ≡ None = usage_form (Some asked) reads text is in absurd (cc)

-- no file is named by the words of no form
named_form : (form : Option Asked) (reads : Reads) → (due form reads).names ≢ [] → IsSome form
named_form None reads opens = absurd (opens refl)
named_form (Some asked) reads opens = refl

-- the script's name alone is due where a bad script is
script_form : (form : Option Asked) (reads : Reads) (text : List ℕ) →
    IsDue beamer_lines (due form reads).answer BadScript text →
    (due form reads).names ≡ scripts_in form
script_form None reads text is = absurd (let no = is.0 in cc)
script_form (Some (Replay names)) reads text is =
    stage_names beamer_lines (IsReportOf by_replay) names reads (script_by by_replay reads names.script) text is
script_form (Some (Run capture script)) reads text is =
    stage_names beamer_lines (IsReportOf by_run) (record { capture = capture; script = Some script }) reads
    (script_by by_run reads (Some script)) text is
script_form (Some (Streams names)) reads text is =
    stage_names beamer_lines (AreStreams names reads) names reads (script_by by_replay reads names.script) text is
script_form (Some (Check trace capture script)) reads text is = check_names trace capture script reads text is
script_form (Some (Load n)) reads text is = absurd (let no = is.0 in cc)

-- no form asks about more than a script allows
exceeded_form : (form : Option Asked) (reads : Reads) (text : List ℕ) →
    IsDue beamer_lines (due form reads).answer Exceeded text → ⊥
exceeded_form None reads text is = let no = is.0 in cc
exceeded_form (Some (Replay names)) reads text is =
    stage_exceeded beamer_lines (IsReportOf by_replay) (reading by_replay names reads) text is
exceeded_form (Some (Run capture script)) reads text is =
    stage_exceeded beamer_lines (IsReportOf by_run)
    (reading by_run (record { capture = capture; script = Some script }) reads) text is
exceeded_form (Some (Streams names)) reads text is =
    stage_exceeded beamer_lines (AreStreams names reads) (reading by_replay names reads) text is
exceeded_form (Some (Check trace capture script)) reads text is = check_exceeded trace capture script reads text is
exceeded_form (Some (Load n)) reads text is = let no = is.0 in cc

-- A FILE IS ASKED FOR

-- by a replay, with or without a script
pub replay_named : (capture : List ℕ) (script : Option (List ℕ)) (reads : Reads) →
    names_after (record { capture = capture; script = script }) (script_by by_replay reads script) ≢ []
replay_named capture None reads = λ e. cc
replay_named capture (Some script) reads = script_named capture script (script_by by_replay reads (Some script))

pub replay_asks : (words : Option Asked) (names : Named) → words ≡ Some (Replay names) → AsksNone (due words) → ⊥
replay_asks words names is none =
    replay_named names.capture names.script nothing (subst (λ f. AsksNone (due f)) is none nothing)

pub streams_asks : (words : Option Asked) (names : Named) → words ≡ Some (Streams names) → AsksNone (due words) → ⊥
streams_asks words names is none =
    replay_named names.capture names.script nothing (subst (λ f. AsksNone (due f)) is none nothing)

pub run_asks : (words : Option Asked) (capture script : List ℕ) → words ≡ Some (Run capture script) →
    AsksNone (due words) → ⊥
run_asks words capture script is none =
    script_named capture script (script_by by_run nothing (Some script))
    (subst (λ f. AsksNone (due f)) is none nothing)

pub check_asks : (words : Option Asked) (trace capture script : List ℕ) → words ≡ Some (Check trace capture script) →
    AsksNone (due words) → ⊥
check_asks words trace capture script is none =
    check_open trace capture script nothing (subst (λ f. AsksNone (due f)) is none nothing)

pub by_form : (form : Option Asked) → ByForm beamer form
by_form form = record {
  misused = usage_form form;
  usage = usage_text form;
  named = named_form form;
  script = script_form form;
  most = omega arith;
  within = λ reads says text is. due_below beamer_lines (due form reads).answer (exceeded_form form reads) says text is;
}
