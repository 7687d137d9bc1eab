-- What impairments say of a sending (docs/FORMATS.md).
use Rattle.std.specs.Prelude.{ℕ, ◌&&◌, ◌==◌, if◌then◌else◌, List, [], ◌∷◌}
use Rattle.bm_base.specs.declared.label.Hop.{Hop}
use Rattle.bm_base.specs.declared.fate.Fate.{Fate}
pub use Rattle.bm_base.specs.Labels.{same_hop}
use Rattle.bm_table.specs.declared.setting.FaultRow.{FaultRow}

-- one copy without delay
abbrev pub plain_fate : Fate
plain_fate = record { copies = 1; delay = 0 }

-- the fate in the first row of the packet and hop, or else one copy without delay
abbrev pub fate_in : List FaultRow → ℕ → Hop → Fate
fate_in [] k hop = plain_fate
fate_in (row ∷ rows) k hop =
    if row.packet == k && same_hop row.hop hop then row.fate else fate_in rows k hop
