-- The octets of a ring, each at a position of its own.
use Rattle.std.specs.Prelude.{ℕ, ◌%◌, ◌==◌, if◌then◌else◌, List, Option, Some, None, slice_get}
use Rattle.bm_stream.specs.declared.ring.Cell.{Cell}

-- the cell's octet, if it is the one of this position
abbrev pub octet_of : ℕ → Option Cell → Option ℕ
octet_of position None = None
octet_of position (Some cell) = if cell.position == position then Some cell.octet else None

-- the octet at a position of a ring
abbrev pub held_at : List Cell → ℕ → Option ℕ
held_at cells position = octet_of position (slice_get cells (position % 65535))
