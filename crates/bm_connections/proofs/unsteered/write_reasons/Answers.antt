use Rattle.bm_connections.specs.Unsteered.{reason_text}
use Rattle.bm_connections.proofs.Lines.{lines_more}
use Rattle.bm_connections.proofs.unsteered.write_reasons.Goals as goal

pub loop-count-preserved : goal.loop-count-preserved
loop-count-preserved c = record {
  written =
      lines_more reason_text c.args.counts.now c.loop-count.count-index _ _ _ _ c.loop-count-test.true
      c.in_ok-write_reason.ensures c.loop-count.invariant.written;
}
