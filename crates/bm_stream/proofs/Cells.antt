-- What a ring keeps.
use Rattle.std.proofs.Common.{◌≡◌, ℕ, ◌<◌, ◌≤◌, ◌%◌, List, Option, Some, None}
use Rattle.std.proofs.Common.{refl, arith}
use Rattle.std.proofs.lemmas.Grind.{common_steps}
use Rattle.std.specs.Prelude.{slice_get}
use Rattle.bm_stream.specs.declared.ring.Cell.{Cell}
use Rattle.bm_stream.specs.Inside.Positions.{AreBelow}
use Rattle.bm_stream.specs.Rings.{held_at, octet_of}

none_of : (end p : ℕ) (found : Option Cell) → ((cell : Cell) → found ≡ Some cell → cell.position < end) → end ≤ p
    → octet_of p found ≡ None
none_of end p None below behind = refl
none_of end p (Some cell) below behind =
    let lower : cell.position < end = below cell refl in grind (arith, common_steps)

-- after all positions nothing is kept
pub held_none : (cells : List Cell) (end p : ℕ) → AreBelow end cells → end ≤ p → held_at cells p ≡ None
held_none cells end p below behind = none_of end p (slice_get cells (p % 65535)) (below (p % 65535)) behind

some_of : (end p x : ℕ) (found : Option Cell) → ((cell : Cell) → found ≡ Some cell → cell.position < end)
    → octet_of p found ≡ Some x → p < end
some_of end p x None below is = absurd (cc)
some_of end p x (Some cell) below is =
    let lower : cell.position < end = below cell refl in grind (arith, common_steps)

-- what is kept is kept below
pub held_below : (cells : List Cell) (end p x : ℕ) → AreBelow end cells → held_at cells p ≡ Some x → p < end
held_below cells end p x below is = some_of end p x (slice_get cells (p % 65535)) (below (p % 65535)) is

pub below_more : (cells : List Cell) (end more : ℕ) → end ≤ more → AreBelow end cells → AreBelow more cells
below_more cells end more less below i cell is = let lower : cell.position < end = below i cell is in omega arith
