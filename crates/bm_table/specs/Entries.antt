-- The table of a version as an array of entries, and what the moves of a change do to it.
use Rattle.std.specs.Prelude.{◌≡◌, ℕ, ◌<◌, if◌then◌else◌, ◌==◌, List, [], ◌∷◌, length, Some}
use Rattle.std.specs.Prelude.{slice_get}
use Rattle.bm_base.specs.declared.label.Entry.{Entry}
use Rattle.bm_table.specs.declared.plan.Move.{Move}
use Rattle.bm_table.specs.Planned.{Planned}
use Rattle.bm_table.specs.Tables.{moved, table}

-- the entry of bucket b after these moves of one moment, in their order
abbrev pub after_moves : ℕ → List Move → ℕ → Entry → Entry
after_moves at [] b entry = entry
after_moves at (m ∷ moves) b entry =
    after_moves at moves b (if m.bucket == b then moved entry at (Some m.to) else entry)

-- the entries are those of each bucket after the first v changes
pub record IsTable (plan : Planned) (v : ℕ) (entries : List Entry) : Type 0 where
  pub count : length entries ≡ plan.buckets
  pub each : (b : ℕ) → b < plan.buckets → slice_get entries b ≡ Some (table plan v b)
