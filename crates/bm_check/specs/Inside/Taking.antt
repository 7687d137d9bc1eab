-- The lines that were read so far.
use Rattle.std.specs.Prelude.{◌≡◌, ℕ, ◌≤◌, Bool, ◌==◌, List, [], ◌∷◌, ◌++◌, length}
use Rattle.bm_core.specs.declared.events.Event.{Event}
use Rattle.bm_check.specs.Answers.{IsBadTo, IsLeast}
use Rattle.bm_check.specs.Lines.{AreLinesOf, lines}
use Rattle.bm_check.specs.declared.lines.Reading.{Reading}
use Rattle.bm_check.specs.declared.lines.Reading.TheVariants.{Events, Bad}

abbrev pub is_feed : ℕ → Bool
is_feed c = c == 10

abbrev pub EndsLine : List ℕ → Type 0
EndsLine text = (rest : List ℕ) × (text ≡ rest ++ 10 ∷ [])

-- these lines are those of the events, and then closing lines, and there are `number` of them
abbrev pub IsTaken : List Event → ℕ → List (List ℕ) → Type 0
IsTaken events number done = AreLinesOf events done × (length done ≡ number)

-- all lines are of these events, and then closing lines, or this one is the first out of place
abbrev pub IsReading : List ℕ → Reading → Type 0
IsReading trace (Events events) = AreLinesOf events (lines trace)
IsReading trace (Bad n) = IsLeast (IsBadTo (lines trace)) n × (n ≤ length trace)
