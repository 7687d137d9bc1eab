-- What a check answers: the first thing that is wrong with a printed report, or that nothing is
-- (docs/DEFINITIONS.md).
use Rattle.std.specs.Prelude.{◌≡◌, ◌≢◌, ℕ, zero, suc, List, [], length, reverse, take, get_or}
use Rattle.bm_base.specs.declared.fate.Fate.{Fate}
use Rattle.bm_base.specs.declared.flow.Flow.{Flow}
use Rattle.bm_base.specs.declared.label.Hop.{Hop}
use Rattle.bm_core.specs.declared.events.History.{History}
use Rattle.bm_core.specs.declared.events.Stage.{Stage}
use Rattle.bm_core.specs.Accounts.{IsAccountOf, Routes, Rules}
use Rattle.bm_core.specs.Runs.{IsRun}
use Rattle.bm_trace.specs.Report.{text}
pub use Rattle.bm_running.specs.FirstStop.{IsLeast, IsNoRunTo}
use Rattle.bm_check.specs.declared.answer.Answer.{Answer}
use Rattle.bm_check.specs.declared.answer.Answer.TheVariants.{Yes, NotLine, NotRun, NotAccount}
use Rattle.bm_check.specs.declared.answer.Answer.TheVariants.{NotSame}
use Rattle.bm_check.specs.Lines.{AreGood, AreLinesOf, lines}

-- each packet, copy and command is accounted for, by these answers of the route and the impairment rule
abbrev pub IsAccounted : Routes → Rules → History → Type 0
IsAccounted R F h = (fates : List Fate) × IsAccountOf R F h.stage fates (reverse h.events)

-- the first n lines of the text aren't lines of events and then closing lines
abbrev pub IsBadTo : List (List ℕ) → ℕ → Type 0
IsBadTo ls n = AreGood (take n ls) → ⊥

-- the texts differ at the line of this number, which counts from 1; a line that a text doesn't have
-- is empty
abbrev pub DifferAt : List ℕ → List ℕ → ℕ → Type 0
DifferAt a b zero = ⊥
DifferAt a b (suc i) = get_or (lines a) i [] ≢ get_or (lines b) i []

-- the lines are those of the history's events, and then closing lines
abbrev pub IsRead : List ℕ → History → Type 0
IsRead trace h = AreLinesOf h.events (lines trace)

-- the first of these that is wrong with the report, where the stage is sound; lines and events
-- count from 1
abbrev pub IsAnswered : Routes → Rules → Stage → List ℕ → Answer → Type 0
IsAnswered R F stage trace (NotLine n) = IsLeast (IsBadTo (lines trace)) n
IsAnswered R F stage trace (NotRun i) =
    (h : History) × (h.stage ≡ stage) × IsRead trace h × IsLeast (IsNoRunTo stage h.events) i
IsAnswered R F stage trace NotAccount =
    (h : History) × (h.stage ≡ stage) × IsRead trace h × IsRun h × (IsAccounted R F h → ⊥)
IsAnswered R F stage trace (NotSame n) =
    (h : History) × (h.stage ≡ stage) × IsRead trace h × IsRun h × IsAccounted R F h
    × IsLeast (DifferAt trace (text h)) n
IsAnswered R F stage trace (Yes e) =
    (h : History) × (h.stage ≡ stage) × IsRead trace h × IsRun h × IsAccounted R F h
    × (text h ≡ trace) × (length h.events ≡ e)

-- each question has just one answer
pub record IsSure (R : Routes) (F : Rules) : Type 0 where
  pub mux : (k : ℕ) (f : Flow) (m n : ℕ) → R k f m → R k f n → m ≡ n
  pub fate : (k : ℕ) (hop : Hop) (a b : Fate) → F k hop a → F k hop b → a ≡ b
