use Rattle.std.proofs.Common.{◌≡◌, ◌≤◌, length}
use Rattle.bm_base.proofs.Pieces.{lowered}
use Rattle.bm_base.proofs.octets.lower.Given as goal

-- the numbers in front of the place are lower, and the others are as they were
abbrev pub invariant-loop-place : goal.invariant-loop-place
invariant-loop-place l =
    (l.place ≤ length l.initial.numbers.items)
    × (length l.numbers.items ≡ length l.initial.numbers.items)
    × (l.numbers.items ≡ lowered l.by l.place l.initial.numbers.items)
