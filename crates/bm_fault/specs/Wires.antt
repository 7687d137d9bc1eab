-- The order in which copies under way arrive.
use Rattle.std.specs.Prelude.{ℕ, ◌≤◌, nat_lt, if◌then◌else◌, List, [], ◌∷◌, Option, Some, None}
use Rattle.bm_base.specs.declared.ids.Moment.{Moment}
use Rattle.bm_fault.specs.Flying.{Flying}
use Rattle.bm_fault.specs.declared.wire.Flight.{Flight}

-- the copy added after those that are due no later
abbrev pub put_flying : Flying → List Flying → List Flying
put_flying f [] = f ∷ []
put_flying f (x ∷ flying) =
    if nat_lt f.due.0 x.due.0 then f ∷ x ∷ flying else x ∷ put_flying f flying

-- when the first one is due
abbrev pub first_due : List Flying → Option Moment
first_due [] = None
first_due (f ∷ flying) = Some f.due

-- the copy that is due first, without its moment
abbrev pub first_flight : List Flying → Option Flight
first_flight [] = None
first_flight (f ∷ flying) = Some f.flight

-- all but the first
abbrev pub others : List Flying → List Flying
others [] = []
others (f ∷ flying) = flying

-- the due moments never decrease, and are at least `low`
abbrev pub DueRise : ℕ → List Flying → Type 0
DueRise low [] = Unit {0}
DueRise low (f ∷ flying) = (low ≤ f.due.0) × DueRise f.due.0 flying
