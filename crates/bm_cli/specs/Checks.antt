-- What the program promises of the check of a trace.
use Rattle.std.specs.Prelude.{◌≡◌, ℕ, List, ◌++◌, codes, decimal, length}
use Rattle.bm_check.specs.Answers.{IsAccounted, IsAnswered}
use Rattle.bm_check.specs.declared.answer.Answer.{Answer as Checked}
use Rattle.bm_check.specs.declared.answer.Answer.TheVariants.{Yes, NotLine, NotRun, NotAccount}
use Rattle.bm_check.specs.declared.answer.Answer.TheVariants.{NotSame}
use Rattle.bm_core.specs.declared.events.History.{History}
use Rattle.bm_core.specs.declared.events.Stage.{Stage}
use Rattle.bm_core.specs.Accounts.{Routes, Rules}
use Rattle.bm_core.specs.Runs.{IsRun}
use Rattle.bm_replay.specs.Replays.{setting_route, setting_rule}
use Rattle.bm_trace.specs.Report.{text}
use Rattle.bm_trace.specs.Types.{AreEvents}
use Rattle.bm_cli.specs.declared.status.Status.{Status}
use Rattle.bm_cli.specs.declared.status.Status.TheVariants.{Done, Denied}

-- this is what a check answers of the trace, where the route and the impairment rule answer so
pub record IsCheckBy (R : Routes) (F : Rules) (stage : Stage) (trace : List ℕ) (answer : Checked)
    : Type 0 where
  -- it names the first thing that is wrong with the trace, or says that nothing is
  pub answered : IsAnswered R F stage trace answer
  -- nothing is wrong with the report of a run of the stage that is accounted for
  pub yes : (h : History) → h.stage ≡ stage → AreEvents h.events → IsRun h → IsAccounted R F h
      → text h ≡ trace → answer ≡ Yes (length h.events)

-- the same, by the route and the impairment rule of the stage's setting
abbrev pub IsCheckOf : Stage → List ℕ → Checked → Type 0
IsCheckOf stage =
    IsCheckBy (setting_route stage.script.setting) (setting_rule stage.script.setting) stage

abbrev pub checked_status : Checked → Status
checked_status (Yes e) = Done
checked_status _ = Denied

abbrev pub checked_line : Checked → List ℕ
checked_line (Yes e) = codes "beamer: check: yes " ++ decimal e ++ codes " events\n"
checked_line (NotLine n) = codes "beamer: check: not a line " ++ decimal n ++ codes "\n"
checked_line (NotRun i) = codes "beamer: check: not a run at event " ++ decimal i ++ codes "\n"
checked_line NotAccount = codes "beamer: check: not accounted\n"
checked_line (NotSame n) = codes "beamer: check: differs at line " ++ decimal n ++ codes "\n"
