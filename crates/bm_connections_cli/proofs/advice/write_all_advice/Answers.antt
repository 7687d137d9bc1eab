use Rattle.bm_connections.specs.declared.counts.CauseCount.{CauseCount}
use Rattle.bm_connections.proofs.Lines.{lines_more}
use Rattle.bm_connections_cli.specs.Advice.{advice_line}
use Rattle.bm_connections_cli.proofs.advice.write_all_advice.Goals as goal

pub loop-count-preserved : goal.loop-count-preserved
loop-count-preserved c = record {
  written = lines_more (λ (x : CauseCount). advice_line x.cause) c.args.counts.now c.loop-count.count-index _ _ _ _
      c.loop-count-test.true c.in_ok-write_advice.ensures c.loop-count.invariant.written;
}
