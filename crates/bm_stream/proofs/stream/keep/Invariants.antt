use Rattle.std.proofs.Common.{◌≡◌, ◌+◌, ◌<◌, ◌≤◌, ℕ, length, take}
use Rattle.std.specs.Prelude.{pos}
use Rattle.bm_stream.specs.Pieces.{first_of_two, octet_at}
use Rattle.bm_stream.specs.Inside.Positions.{AreBelow}
use Rattle.bm_stream.specs.Rings.{held_at}
use Rattle.bm_stream.proofs.stream.keep.Given as goal

abbrev pub invariant-loop-i : goal.invariant-loop-i
invariant-loop-i l =
    ((p : ℕ) → p < l.end → l.end ≤ p + 65535
    → held_at l.ring.cells.items p
    ≡ first_of_two (held_at l.initial.ring.cells.items p) (octet_at (pos l.first) (take l.i l.octets) p))
    × (AreBelow l.end l.initial.ring.cells.items → AreBelow l.end l.ring.cells.items)
    × ((limit : ℕ) → l.first + length l.octets ≤ limit → AreBelow limit l.initial.ring.cells.items
    → AreBelow limit l.ring.cells.items)
