use Rattle.std.proofs.Common.{◌≡◌, take}
use Rattle.bm_drawing.specs.Drawing.{span_of}
use Rattle.bm_drawing.proofs.plot.span_of.Given as goal

abbrev pub invariant-loop-connection : goal.invariant-loop-connection
invariant-loop-connection l = record {
  span : l.span ≡ span_of l.changes (take l.connection-index l.table);
}
