-- A threaded run, or a check, by a route and an impairment rule is one by any that answer the same.
use Rattle.std.proofs.Common.{◌≡◌, ℕ, List, Result, Ok, Err, IfOk, length}
use Rattle.bm_base.specs.declared.memory.Memory.{Memory}
use Rattle.bm_check.specs.Answers.{IsAccounted, IsAnswered}
use Rattle.bm_check.specs.declared.answer.Answer.{Answer as Checked}
use Rattle.bm_check.specs.declared.answer.Answer.TheVariants.{Yes, NotLine, NotRun, NotAccount, NotSame}
use Rattle.bm_base.specs.declared.flow.Flow.{Flow}
use Rattle.bm_base.specs.declared.label.Hop.{Hop}
use Rattle.bm_base.specs.declared.fate.Fate.{Fate}
use Rattle.bm_core.specs.declared.events.Event.{Event}
use Rattle.bm_core.specs.declared.events.History.{History}
use Rattle.bm_core.specs.declared.events.Stage.{Stage}
use Rattle.bm_core.specs.Accounts.{IsAccountOf, Routes, Rules}
use Rattle.bm_core.specs.Runs.{IsRun}
use Rattle.bm_core.specs.Threads.{IsThreadedRun}
use Rattle.bm_replay.proofs.WiderRules.{answered_more}
use Rattle.bm_cli.specs.declared.mode.Mode.{Mode}
use Rattle.bm_cli.specs.declared.mode.Mode.TheVariants.{Replay, Run}
use Rattle.bm_trace.specs.Report.{text}
use Rattle.bm_trace.specs.Types.{AreEvents}
use Rattle.bm_cli.specs.Checks.{IsCheckBy}
use Rattle.bm_cli.specs.Headline.{IsMadeBy}

account_more : (R S : Routes) (F G : Rules) → ((k : ℕ) (f : Flow) (m : ℕ) → R k f m → S k f m)
    → ((k : ℕ) (hop : Hop) (f : Fate) → F k hop f → G k hop f) → (stage : Stage) (fates : List Fate) (all : List Event)
    → IsAccountOf R F stage fates all → IsAccountOf S G stage fates all
account_more R S F G routes rules stage fates all is = record {
  steered = is.steered;
  answered = answered_more R S F G routes rules stage fates all is.answered;
  lost = is.lost;
  sent = is.sent;
  arrived = is.arrived;
  commands = is.commands;
}

pub threaded_more : (R S : Routes) (F G : Rules) → ((k : ℕ) (f : Flow) (m : ℕ) → R k f m → S k f m)
    → ((k : ℕ) (hop : Hop) (f : Fate) → F k hop f → G k hop f) → (h : History) → IsThreadedRun R F h
    → IsThreadedRun S G h
threaded_more R S F G routes rules h is = record {
  run = is.run;
  fates = is.fates;
  follows = is.follows;
  account = account_more R S F G routes rules h.stage is.fates _ is.account;
}

-- a history of either mode is a run
pub is_run : (mode : Mode) (stage : Stage) (h : History) → IsMadeBy mode stage h → IsRun h
is_run Replay stage h made = made.run
is_run Run stage h made = made.run

-- CHECKS

accounted_more : (R S : Routes) (F G : Rules) → ((k : ℕ) (f : Flow) (m : ℕ) → R k f m → S k f m)
    → ((k : ℕ) (hop : Hop) (f : Fate) → F k hop f → G k hop f) → (h : History) → IsAccounted R F h → IsAccounted S G h
accounted_more R S F G routes rules h is = (is.0, account_more R S F G routes rules h.stage is.0 _ is.1)

-- a route and an impairment rule that answer just the same
pub record AreSame (R S : Routes) (F G : Rules) : Type 0 where
  pub routes : (k : ℕ) (f : Flow) (m : ℕ) → R k f m → S k f m
  pub routes_back : (k : ℕ) (f : Flow) (m : ℕ) → S k f m → R k f m
  pub rules : (k : ℕ) (hop : Hop) (f : Fate) → F k hop f → G k hop f
  pub rules_back : (k : ℕ) (hop : Hop) (f : Fate) → G k hop f → F k hop f

answered_same : (R S : Routes) (F G : Rules) → AreSame R S F G → (stage : Stage) (trace : List ℕ) (a : Checked)
    → IsAnswered R F stage trace a → IsAnswered S G stage trace a
answered_same R S F G same stage trace (NotLine n) is = is
answered_same R S F G same stage trace (NotRun i) is = is
answered_same R S F G same stage trace NotAccount is = (
  is.0,
  is.1,
  is.2,
  is.3,
  λ accounted. is.4 (accounted_more S R G F same.routes_back same.rules_back is.0 accounted),
)
answered_same R S F G same stage trace (NotSame n) is =
    (is.0, is.1, is.2, is.3, accounted_more R S F G same.routes same.rules is.0 is.4, is.5)
answered_same R S F G same stage trace (Yes e) is =
    (is.0, is.1, is.2, is.3, accounted_more R S F G same.routes same.rules is.0 is.4, is.5, is.6)

-- what a check answers, where another route and another impairment rule answer just the same
pub checked_same : (R S : Routes) (F G : Rules) (stage : Stage) (trace : List ℕ) (r : Result Checked Memory)
    → IfOk r (IsAnswered R F stage trace)
    → ((h : History) → h.stage ≡ stage → AreEvents h.events → IsRun h → IsAccounted R F h → text h ≡ trace
    → IfOk r (λ a. a ≡ Yes (length h.events))) → AreSame R S F G → IfOk r (IsCheckBy S G stage trace)
checked_same R S F G stage trace (Ok a) answered says same = record {
  answered = answered_same R S F G same stage trace a answered;
  yes = λ h about events run accounted is.
      says h about events run (accounted_more S R G F same.routes_back same.rules_back h accounted) is;
}
checked_same R S F G stage trace (Err e) answered says same = tt
