use Rattle.bm_connections.proofs.Counting.{causes_more}
use Rattle.bm_connections.proofs.counts.causes_in.Goals as goal

pub loop-cause-preserved : goal.loop-cause-preserved
loop-cause-preserved c = record {
  counts = causes_more c.args.packets.now c.args.table.now c.loop-cause.cause-index _ c.of.result _ _
      c.loop-cause-test.true c.of.ensures c.in_ok-push_occurring.ensures c.loop-cause.invariant.counts;
}
