-- Logs whose clocks never decrease, and the order of their events.
use Rattle.std.specs.Prelude.{◌≤◌, List, [], ◌∷◌, reverse}
use Rattle.std.specs.List.{AllByRecursion}
use Rattle.bm_core.specs.declared.events.Event.{Event}
use Rattle.bm_merge.specs.Merges.{by_clock}

-- no clock is below one before it; the oldest event comes first
abbrev pub IsRising : List Event → Type 0
IsRising [] = Unit {0}
IsRising (e ∷ events) = AllByRecursion (λ x. e.clock.0 ≤ x.clock.0) events × IsRising events

-- the events by clock; those of one clock keep their order; the oldest event comes first
abbrev pub in_order : List Event → List Event
in_order events = reverse (by_clock (reverse events))
