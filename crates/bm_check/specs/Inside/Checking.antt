-- What the parts of a check find.
use Rattle.std.specs.Prelude.{◌≡◌, ℕ, List, length, reverse}
use Rattle.bm_base.specs.declared.fate.Fate.{Fate}
use Rattle.bm_core.specs.Accounts.{IsAccountOf, Routes, Rules}
use Rattle.bm_core.specs.Runs.{Run}
use Rattle.bm_core.specs.declared.events.History.{History}
use Rattle.bm_core.specs.declared.events.Stage.{Stage}
use Rattle.bm_trace.specs.Report.{text}
use Rattle.bm_check.specs.Answers.{DifferAt, IsAnswered, IsLeast}
use Rattle.bm_check.specs.Lines.{AreLinesOf, lines}
use Rattle.bm_check.specs.declared.answer.Answer.{Answer}
use Rattle.bm_check.specs.declared.answer.Answer.TheVariants.{Yes, NotSame}
use Rattle.bm_check.specs.declared.checking.Found.{Found}
use Rattle.bm_check.specs.declared.checking.Found.TheVariants.{Wrong, Events}

-- the lines name these events, which are a run that is accounted for, or this is wrong
abbrev pub IsFound : Routes → Rules → Stage → List ℕ → Found → Type 0
IsFound R F stage trace (Wrong answer) = IsAnswered R F stage trace answer
IsFound R F stage trace (Events events) =
    AreLinesOf events (lines trace) × Run stage (reverse events)
    × ((fates : List Fate) × IsAccountOf R F stage fates (reverse events))

-- the octets are the report of the history, or first differ from it at this line
abbrev pub IsCompared : History → List ℕ → Answer → Type 0
IsCompared h trace (Yes e) = (text h ≡ trace) × (length h.events ≡ e)
IsCompared h trace (NotSame n) = IsLeast (DifferAt trace (text h)) n
IsCompared h trace _ = ⊥
