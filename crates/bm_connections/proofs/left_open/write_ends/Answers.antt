use Rattle.bm_connections.specs.OpenEnds.{open_end_line}
use Rattle.bm_connections.proofs.Lines.{lines_more}
use Rattle.bm_connections.proofs.left_open.write_ends.Goals as goal

pub loop-end-preserved : goal.loop-end-preserved
loop-end-preserved c = record {
  written =
      lines_more open_end_line c.args.ends.now c.loop-end.end-index _ _ _ _ c.loop-end-test.true
      c.in_ok-write_end.ensures c.loop-end.invariant.written;
}
