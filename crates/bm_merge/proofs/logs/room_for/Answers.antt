use Rattle.bm_merge.proofs.Joined.{room_step}
use Rattle.bm_merge.proofs.logs.room_for.Goals as goal

pub loop-log-preserved : goal.loop-log-preserved
loop-log-preserved c =
    room_step c.args.logs.now c.loop-log.log-index _ c.loop-log.room c.saturating_add-room.result _ c.log-item.result
    c.loop-log.invariant c.loop-log-test.true c.items.ensures c.log-item.is c.saturating_add-room.ensures
