use Rattle.bm_merge.proofs.Heading.{log_more}
use Rattle.bm_merge.proofs.rising.join_all.Goals as goal

pub loop-log-preserved : goal.loop-log-preserved
loop-log-preserved g c =
    log_more g.L.EventLog.events c.args.logs.now c.loop-log.log-index c.loop-log.events.items c.add_log.new.events.items
    c.log-item.result c.loop-log.invariant c.loop-log-test.true c.in_ok-add_log.ensures c.log-item.is
