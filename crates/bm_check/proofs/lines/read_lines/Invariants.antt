use Rattle.std.proofs.Common.{◌≡◌, ◌+◌, ◌≤◌, ◌++◌, List, ℕ, length}
use Rattle.bm_check.specs.Inside.Taking.{IsTaken}
use Rattle.bm_check.specs.Lines.{lines}
use Rattle.bm_check.proofs.lines.read_lines.Given as goal

abbrev pub invariant-loop-rest : goal.invariant-loop-rest
invariant-loop-rest l =
    ((done : List (List ℕ)) × IsTaken l.events.items l.number done × (lines l.trace ≡ done ++ lines l.rest))
    × (l.number + length l.rest ≤ length l.trace)

abbrev pub decreases-loop-rest : goal.decreases-loop-rest
decreases-loop-rest l = length l.rest
