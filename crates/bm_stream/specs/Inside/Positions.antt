-- Where the octets of a ring are.
use Rattle.std.specs.Prelude.{◌≡◌, ℕ, ◌<◌, List, Some, slice_get}
use Rattle.bm_stream.specs.declared.ring.Cell.{Cell}

-- all octets are at positions below this one
abbrev pub AreBelow : ℕ → List Cell → Type 0
AreBelow end cells = (i : ℕ) (cell : Cell) → slice_get cells i ≡ Some cell → cell.position < end
