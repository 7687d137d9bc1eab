-- Which tags a header has room for.
use Rattle.std.specs.Prelude.{◌^◌, ◌<◌}
use Rattle.bm_base.specs.declared.label.Tag.{Tag}
use Rattle.bm_encap.specs.Spellings.{past_stamp}

-- the stamps and the version of a tag fit their fields
abbrev pub FitsFields : Tag → Type 0
FitsFields tag =
    (past_stamp tag.prev < 2 ^ 64) × (past_stamp tag.older < 2 ^ 64) × (tag.version.0 < 2 ^ 32)
