use Rattle.std.proofs.Common.{◌≡◌, [], take}
use Rattle.bm_drawing.specs.Drawing.{span_of}
use Rattle.bm_drawing.proofs.plot.span_of_changes.Given as goal

abbrev pub invariant-loop-change : goal.invariant-loop-change
invariant-loop-change l = record {
  span : l.span ≡ span_of (take l.change-index l.changes) [];
}
