-- What the contracts of private calls and the proofs of bodies use in addition to Rows.
use Rattle.std.specs.Prelude.{ℕ, ◌&&◌, ◌==◌, if◌then◌else◌, List, [], ◌∷◌, Option, Some, None}
use Rattle.bm_base.specs.declared.label.Hop.{Hop}
use Rattle.bm_base.specs.declared.fate.Fate.{Fate}
use Rattle.bm_base.specs.Labels.{same_hop}
use Rattle.bm_table.specs.declared.setting.FaultRow.{FaultRow}

-- the first fate, or else the second
abbrev pub fate_or : Option Fate → Option Fate → Option Fate
fate_or None second = second
fate_or (Some fate) second = Some fate

-- what one row says of the packet and hop
abbrev pub row_fate : FaultRow → ℕ → Hop → Option Fate
row_fate row k hop = if row.packet == k && same_hop row.hop hop then Some row.fate else None

-- what the first row of the packet and hop says, if there is one
abbrev pub found_in : List FaultRow → ℕ → Hop → Option Fate
found_in [] k hop = None
found_in (row ∷ rows) k hop = fate_or (row_fate row k hop) (found_in rows k hop)
