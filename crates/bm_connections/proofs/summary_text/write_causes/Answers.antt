use Rattle.bm_connections.specs.Text.{cause_line}
use Rattle.bm_connections.proofs.Lines.{lines_more}
use Rattle.bm_connections.proofs.summary_text.write_causes.Goals as goal

pub loop-cause-preserved : goal.loop-cause-preserved
loop-cause-preserved c = record {
  written =
      lines_more cause_line c.args.causes.now c.loop-cause.cause-index _ _ _ _ c.loop-cause-test.true
      c.in_ok-write_cause.ensures c.loop-cause.invariant.written;
}
