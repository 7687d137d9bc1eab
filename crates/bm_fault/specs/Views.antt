-- How contracts see the impairments and the wire.
use Rattle.std.specs.Prelude.{ℕ, List, ◌++◌, map}
use Rattle.bm_base.specs.declared.label.Hop.{Hop}
use Rattle.bm_base.specs.declared.label.Hop.TheVariants.{Direct, Chained, Twice}
use Rattle.bm_base.specs.declared.fate.Fate.{Fate}
use Rattle.bm_table.specs.declared.setting.FaultRow.{FaultRow}
use Rattle.bm_fault.specs.declared.rows.FaultRows.TheInside.{Inside as RowsInside}
use Rattle.bm_fault.specs.declared.wire.Wire.TheInside.{Inside as WireInside}
use Rattle.bm_fault.specs.declared.wire.Queued.{Queued}
use Rattle.bm_fault.specs.Flying.{Flying}
use Rattle.bm_fault.specs.Wires.{DueRise}

-- the row of a hop for an entry
abbrev pub row_of : Hop → ℕ × Fate → FaultRow
row_of hop e = record { packet = e.0; hop = hop; fate = e.1 }

-- the rows of each hop in the order of their packets
abbrev pub rows_of : RowsInside → List FaultRow
rows_of rows =
    map (row_of Direct) rows.direct.entries
    ++ (map (row_of Chained) rows.chained.entries ++ map (row_of Twice) rows.twice.entries)

-- a copy in the queue
abbrev pub flying_of : Queued → Flying
flying_of copy = record { due = copy.due; flight = copy.flight }

-- the copies in their order
abbrev pub flying : WireInside → List Flying
flying wire = map flying_of wire.flights.items

-- the due moments never decrease
abbrev pub IsKept : WireInside → Type 0
IsKept wire = DueRise 0 (flying wire)
