use Rattle.bm_merge.proofs.Joined.{joined_step}
use Rattle.bm_merge.proofs.logs.join.Goals as goal

pub loop-log-preserved : goal.loop-log-preserved
loop-log-preserved c =
    joined_step c.args.logs.now c.loop-log.log-index c.loop-log.events.items _ _ _ c.loop-log.invariant
    c.loop-log-test.true c.in_ok-extend_from_slice.ensures.items c.items.ensures c.log-item.is
