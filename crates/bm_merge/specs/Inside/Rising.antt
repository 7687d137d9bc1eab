-- The next events of logs whose clocks never decrease.
use Rattle.std.specs.Prelude.{◌≡◌, ◌≤◌, ◌<◌, ℕ, List, [], ◌∷◌, ◌++◌, length, map, drop}
use Rattle.std.specs.Prelude.{slice_get, slice_index_or, Option, Some, None}
use Rattle.std.specs.List.{AllByRecursion}
use Rattle.bm_core.specs.declared.events.Event.{Event}
use Rattle.bm_merge.specs.declared.rising.Head.{Head}
use Rattle.bm_merge.specs.Rising.{IsRising}

-- the logs of groups, one group after another
abbrev pub all_logs : List (List (List Event)) → List (List Event)
all_logs [] = []
all_logs (logs ∷ groups) = logs ++ all_logs groups

-- what is left of a log, from its next event on
abbrev pub left_of : List (List Event) → Head → List Event
left_of logs h = h.event ∷ drop h.behind (slice_index_or logs h.log [])

abbrev pub lefts : List (List Event) → List Head → List (List Event)
lefts logs heads = map (left_of logs) heads

-- the log has these events left
pub record Stands (logs : List (List Event)) (h : Head) : Type 0 where
  pub log : h.log < length logs
  pub rising : IsRising (left_of logs h)

abbrev pub AreStanding : List (List Event) → List Head → Type 0
AreStanding logs heads = AllByRecursion (Stands logs) heads

-- the event at this place of the log comes next, if there is one
abbrev pub IsNextOf : List (List Event) → ℕ → ℕ → Option Head → Type 0
IsNextOf logs log place (Some h) =
    (h.log ≡ log) × (drop place (slice_index_or logs log []) ≡ left_of logs h)
IsNextOf logs log place None = drop place (slice_index_or logs log []) ≡ []

-- the head at this place has the least clock, and is the first of those with it
pub record IsEarliest (heads : List Head) (at : ℕ) : Type 0 where
  pub there : at < length heads
  pub before : (i : ℕ) (h e : Head) → i < at → slice_get heads i ≡ Some h
      → slice_get heads at ≡ Some e → e.event.clock.0 < h.event.clock.0
  pub behind : (i : ℕ) (h e : Head) → at ≤ i → slice_get heads i ≡ Some h
      → slice_get heads at ≡ Some e → e.event.clock.0 ≤ h.event.clock.0
