use Rattle.bm_connections.specs.NeededText.{thrice_line}
use Rattle.bm_connections.proofs.Lines.{lines_more}
use Rattle.bm_connections.proofs.needed_text.write_all_moved.Goals as goal

pub loop-m-preserved : goal.loop-m-preserved
loop-m-preserved c = record {
  written =
      lines_more thrice_line c.args.moved.now c.loop-m.m-index _ _ _ _ c.loop-m-test.true
      c.in_ok-write_moved.ensures c.loop-m.invariant.written;
}
