use Rattle.bm_merge.proofs.Heading.{event_more}
use Rattle.std.proofs.Common.{arith}
use Rattle.bm_merge.proofs.rising.add_log.Goals as goal

pub loop-place-preserved : goal.loop-place-preserved
loop-place-preserved g c =
    let count = c.count-place-end.ensures in
    let true = c.loop-place-test.true in
    record {
      within = omega arith;
      items = event_more (g.L.EventLog.events c.args.log.now) c.loop-place.place c.args.events.now.items
          c.loop-place.events.items c.push.new.self.items c.event.result c.loop-place.invariant.items
          c.in_ok-push.ensures.items c.event.ensures;
    }
