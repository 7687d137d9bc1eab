-- What the contracts of private calls and the proofs of bodies use in addition to Swept.
use Rattle.std.specs.Prelude.{◌≡◌, ℕ, ◌+◌, ◌-◌, ◌<◌, ◌≤◌, List, length, min, reverse, take}
use Rattle.std.specs.Prelude.{Option}
use Rattle.bm_core.specs.declared.events.Cause.{Cause}
use Rattle.bm_core.specs.declared.events.History.{History}
use Rattle.bm_core.specs.Runs.{IsRun}
use Rattle.bm_trace.specs.CauseOf.{cause_of}
use Rattle.bm_trace.specs.Inside.Known.{Knows}
use Rattle.bm_trace.specs.Totals.{strays}
use Rattle.bm_trace.specs.declared.swept.Sweeper.{Sweeper}
use Rattle.bm_trace.specs.Swept.{cause_in}

-- these are the causes of the events from one place to another, as far as there are events
pub record AreCausesOf (h : History) (from to : ℕ) (causes : List (Option Cause)) : Type 0 where
  pub count : length causes ≡ min to (length h.events) - min from (length h.events)
  pub each : (k : ℕ) → k < length causes → cause_in causes k ≡ cause_of h (from + k)

-- what a sweep knows before the event at a place, and how many strays of a run it counted
pub record HasSwept (h : History) (place : ℕ) (sweeper : Sweeper) : Type 0 where
  pub known : Knows h.stage (reverse (take place h.events)) sweeper.known
  pub counted : IsRun h → sweeper.strays ≡ strays h.stage (reverse (take place h.events))
  pub few : sweeper.strays ≤ min place (length h.events)
