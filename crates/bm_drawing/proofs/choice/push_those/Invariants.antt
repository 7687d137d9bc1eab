use Rattle.std.proofs.Common.{◌≡◌, ◌++◌, take}
use Rattle.bm_drawing.specs.Drawing.{those}
use Rattle.bm_drawing.proofs.choice.push_those.Given as goal

abbrev pub invariant-loop-connection : goal.invariant-loop-connection
invariant-loop-connection l = record {
  collected : l.rows.items
      ≡ l.initial.rows.items ++ those l.changes l.part (take l.connection-index l.table);
}
