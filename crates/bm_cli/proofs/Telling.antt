-- An answer that was written.
use Rattle.std.proofs.Common.{inl, inr, ◌≡◌, ℕ, ◌<◌, List, [], Option, refl, arith, ap, length, length-append}
use Rattle.std.proofs.Common.{reverse, sym}
use Rattle.bm_base.specs.declared.fate.Fate.{Fate}
use Rattle.bm_core.specs.declared.events.History.{History}
use Rattle.bm_core.specs.declared.events.Stage.{Stage}
use Rattle.bm_core.specs.Accounts.{IsAccountOf}
use Rattle.bm_core.proofs.Lawful.{cause_law, safety_law}
use Rattle.bm_replay.specs.Replays.{setting_route, setting_rule}
use Rattle.bm_io.specs.Written.{WritesPart}
use Rattle.bm_trace.specs.Inside.Parts.{lines_after}
use Rattle.bm_trace.specs.Report.{event_lines, text}
use Rattle.bm_trace.specs.Types.{AreEvents}
use Rattle.bm_trace.proofs.Kept.{ended_line_law, kept_line_law}
use Rattle.bm_trace.proofs.Parted.{behind_events, some_behind}
use Rattle.bm_check.specs.declared.answer.Answer.{Answer as Checked}
use Rattle.bm_check.specs.declared.answer.Answer.TheVariants.{Yes}
use Rattle.bm_cli.specs.declared.mode.Mode.{Mode}
use Rattle.bm_cli.specs.declared.mode.Mode.TheVariants.{Replay, Run}
use Rattle.bm_cli.specs.declared.status.Status.{Status}
use Rattle.bm_cli.specs.declared.status.Status.TheVariants.{Done, Memory}
use Rattle.bm_cli.specs.Checks.{IsCheckOf}
use Rattle.bm_cli.specs.Dues.{Answer, IsDue, Shown}
use Rattle.bm_cli.specs.Headline.{IsMadeBy, IsReportOf}
use Rattle.bm_cli.specs.Lines.{FaultLines, beamer_lines}
use Rattle.bm_cli.specs.Telling.{Tells}
use Rattle.bm_cli.specs.Statuses.{Did, Writes, SinkDid}
use Rattle.bm_cli.proofs.Statuses.{appends_nothing}
use Rattle.bm_cli.proofs.Wider.{is_run}

-- a sink, or files, that nothing was done to
abbrev pub untouched : {A : Type 0} → Option A → ℕ → Did A
untouched before faults = record { before = before; now = before; faults = faults; later = faults }

pub tells_due : (lines : FaultLines) (answer : Answer) (says : Status) (text : List ℕ) (sink : SinkDid)
    (result : Status) →
    IsDue lines answer says text → Writes says text sink result → Tells lines answer sink result
tells_due lines answer says text sink result is writes =
    record { says = says; text = text; is = inl is; writes = writes }

some_text : (h : History) → 0 < length (text h)
some_text h =
    omega (
      arith,
      ap length (behind_events h),
      length-append (event_lines h.stage (reverse h.events)) (lines_after h),
      some_behind h,
    )

-- nothing of a report was written
pub none_written : (h : History) (told : Option (List ℕ)) → WritesPart told told (text h)
none_written h told = (0, some_text h, appends_nothing told)

pub account_of : (mode : Mode) (stage : Stage) (h : History) → IsMadeBy mode stage h → (fates : List Fate)
    × IsAccountOf (setting_route stage.script.setting) (setting_rule stage.script.setting) h.stage fates
    (reverse h.events)
account_of Replay stage h made = (made.fates, made.account)
account_of Run stage h made = (made.fates, made.account)

-- the report of a history that was made for the stage
report_of : (mode : Mode) (stage : Stage) (h : History) → h.stage ≡ stage → IsMadeBy mode stage h
    → AreEvents h.events → IsReportOf mode stage (text h)
report_of mode stage h about made fit =
    let run = is_run mode stage h made in
    let account = account_of mode stage h made in
    record {
      history = h;
      about = about;
      printed = refl;
      made = made;
      fit = fit;
      ended = λ packet steered.
          ended_line_law (setting_route stage.script.setting) (setting_rule stage.script.setting) h packet account.0 run
          steered account.1;
      served = λ place unbroken. safety_law h place run unbroken;
      kept = λ packet steered unbroken.
          kept_line_law (setting_route stage.script.setting) (setting_rule stage.script.setting) h packet account.0 run
          steered unbroken account.1;
      named = λ place fault. cause_law h place run fault;
    }

pub tells_report : (mode : Mode) (stage : Stage) (h : History) (sink : SinkDid) (result : Status) →
    h.stage ≡ stage → IsMadeBy mode stage h → AreEvents h.events → Writes Done (text h) sink result →
    Tells beamer_lines (Shown (IsReportOf mode stage)) sink result
tells_report mode stage h sink result about made fit writes =
    tells_due beamer_lines (Shown (IsReportOf mode stage)) Done (text h) sink result
    (refl, report_of mode stage h about made fit)
    writes

-- a check answers yes to a report
pub reported_yes : (mode : Mode) (stage : Stage) (octets : List ℕ) (answer : Checked) → IsReportOf mode stage octets
    → IsCheckOf stage octets answer → (e : ℕ) × (answer ≡ Yes e)
reported_yes mode stage octets answer report checked = (
  length report.history.events,
  checked.yes report.history report.about report.fit (is_run mode stage report.history report.made)
      (account_of mode stage report.history report.made) (sym report.printed),
)

pub writes_nothing : (before : Option (List ℕ)) (faults : ℕ) → Writes Memory [] (untouched before faults) Memory
writes_nothing before faults = record {
  count = omega arith;
  ends = inl refl;
  whole = λ e. appends_nothing before;
  less = λ e. inl (appends_nothing before);
  cause = λ e. absurd (cc);
  kept = λ n. refl;
}

pub tells_nothing : (lines : FaultLines) (answer : Answer) (before : Option (List ℕ)) (faults : ℕ) →
    Tells lines answer (untouched before faults) Memory
tells_nothing lines answer before faults = record {
  says = Memory;
  text = [];
  is = inr (refl, refl);
  writes = writes_nothing before faults;
}
