use Rattle.bm_connections.specs.NeededText.{change_line}
use Rattle.bm_connections.proofs.Lines.{lines_more}
use Rattle.bm_connections.proofs.needed_text.write_changes.Goals as goal

pub loop-change-preserved : goal.loop-change-preserved
loop-change-preserved c = record {
  written =
      lines_more (change_line c.args.clock.0) c.args.changes.now c.loop-change.change-index _ _ _ _ c.loop-change-test.true
      c.in_ok-write_change.ensures c.loop-change.invariant.written;
}
