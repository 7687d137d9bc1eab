use Rattle.bm_connections.proofs.Lines.{lines_more}
use Rattle.bm_connections_cli.specs.Changes.{owned_text}
use Rattle.bm_connections_cli.proofs.changes.write_each_owned.Goals as goal

pub loop-count-preserved : goal.loop-count-preserved
loop-count-preserved c = record {
  written =
      lines_more owned_text c.args.counts.now c.loop-count.count-index _ _ _ _ c.loop-count-test.true
      c.in_ok-write_owned.ensures c.loop-count.invariant.written;
}
