use Rattle.bm_merge.proofs.Heading.{room_more}
use Rattle.bm_merge.proofs.rising.room_of.Goals as goal

pub loop-log-preserved : goal.loop-log-preserved
loop-log-preserved g c =
    room_more (g.L.EventLog.events) c.args.logs.now c.loop-log.log-index _ c.loop-log.room c.saturating_add-room.result
    c.count.result c.log-item.result c.loop-log.invariant c.loop-log-test.true c.count.ensures c.log-item.is
    c.saturating_add-room.ensures
