use Rattle.std.proofs.Common.{◌≤◌, ◌≡◌, ◌-◌, length}
use Rattle.bm_io.specs.Inside.Fill.{FilledSoFar}
use Rattle.bm_io.proofs.filling.fill.Given as goal

abbrev pub invariant-loop-at : goal.invariant-loop-at
invariant-loop-at g l = record {
  within : l.at ≤ length l.buf;
  so_far : FilledSoFar (g.S.Source.left l.fn.src) (g.S.Source.left l.src) l.at l.buf;
  later : g.S.Source.faults l.src ≡ g.S.Source.faults l.fn.src;
}

abbrev pub decreases-loop-at : goal.decreases-loop-at
decreases-loop-at g l = length l.buf - l.at
