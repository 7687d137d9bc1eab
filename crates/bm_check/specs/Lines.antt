-- The lines of a printed report: what each is a line of, and the events that they name.
use Rattle.std.specs.Prelude.{◌≡◌, ℕ, ◌<◌, ◌^◌, ◌⊎◌, ◌==◌, Bool, true, false, not, if◌then◌else◌}
use Rattle.std.specs.Prelude.{List, [], ◌∷◌, ◌++◌, codes, decimal}
use Rattle.bm_core.specs.declared.events.Event.{Event}
use Rattle.bm_core.specs.declared.events.Verdict.{Verdict}
use Rattle.bm_core.specs.declared.events.Verdict.TheVariants.{Reset, Drop}
use Rattle.bm_core.specs.declared.events.What.{What}
use Rattle.bm_core.specs.declared.events.What.TheVariants.{Arrive}
use Rattle.bm_core.specs.declared.events.Why.{Why}
use Rattle.bm_core.specs.declared.events.Why.TheVariants.{NoPrevious, ChainExpired, ChainedUnknown}
use Rattle.bm_trace.specs.Report.{words_of}
use Rattle.bm_trace.specs.Types.{IsEvent}
use Rattle.bm_trace.specs.Words.{line}
use Rattle.bm_trace.specs.declared.lines.Aside.{Aside}

-- LINES

-- one octet more before these lines
abbrev pub put_first : ℕ → List (List ℕ) → List (List ℕ)
put_first c [] = (c ∷ []) ∷ []
put_first c (l ∷ ls) = (c ∷ l) ∷ ls

-- the lines of a text, each with its line feed; the last one may have none
abbrev pub lines : List ℕ → List (List ℕ)
lines [] = []
lines (c ∷ octets) = if c == 10 then (10 ∷ []) ∷ lines octets else put_first c (lines octets)

-- EVENT LINES

-- a packet is reset for one of these reasons, and dropped for one of the others
abbrev pub is_reset_reason : Why → Bool
is_reset_reason NoPrevious = true
is_reset_reason ChainExpired = true
is_reset_reason ChainedUnknown = true
is_reset_reason why = false

abbrev pub has_own_reason : Verdict → Bool
has_own_reason (Reset why) = is_reset_reason why
has_own_reason (Drop why) = not (is_reset_reason why)
has_own_reason verdict = true

-- reports have lines of such an event
abbrev pub has_line : What → Bool
has_line (Arrive k hop server verdict) = has_own_reason verdict
has_line what = true

-- the line is one of the event: any version and bucket may stand on it where a packet is steered,
-- and any cause where a copy arrives
pub record IsLineOf (e : Event) (l : List ℕ) : Type 0 where
  pub has : has_line e.what ≡ true
  pub numbers : IsEvent e
  pub aside : Aside
  pub version : aside.version < 2 ^ 32
  pub bucket : aside.bucket < 2 ^ 32
  pub is : l ≡ line (decimal e.clock.0) (words_of e.what aside)

-- CLOSING LINES

-- the line begins with this text, and ends with a line feed
abbrev pub Begins : List ℕ → List ℕ → Type 0
Begins text l = (rest : List ℕ) × (l ≡ text ++ (rest ++ 10 ∷ []))

abbrev pub IsClosing : List ℕ → Type 0
IsClosing l = Begins (codes "packet ") l ⊎ Begins (codes "note ") l ⊎ Begins (codes "total ") l

-- lines of these events in their order, and then closing lines
abbrev pub AreLinesOf : List Event → List (List ℕ) → Type 0
AreLinesOf [] [] = Unit {0}
AreLinesOf [] (l ∷ ls) = IsClosing l × AreLinesOf [] ls
AreLinesOf (e ∷ events) [] = ⊥
AreLinesOf (e ∷ events) (l ∷ ls) = IsLineOf e l × AreLinesOf events ls

-- lines of some events and then closing lines
abbrev pub AreGood : List (List ℕ) → Type 0
AreGood ls = (events : List Event) × AreLinesOf events ls
