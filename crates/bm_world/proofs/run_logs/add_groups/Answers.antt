use Rattle.std.proofs.Common.{ap}
use Rattle.bm_world.specs.Inside.Logged.{source_logs}
use Rattle.bm_world.proofs.Rising.{group_last, group_more}
use Rattle.bm_world.proofs.run_logs.add_groups.Goals as goal

pub loop-all-preserved : goal.loop-all-preserved
loop-all-preserved c =
    group_more c.loop-all.groups.items c.push.new.self.items c.new.result (source_logs c.loop-all.all)
    (source_logs c.split_off.new.self) (source_logs c.in_ok-rest.rest) _ c.loop-all.invariant
    c.in_ok-rest.ensures.logs c.in_ok-push.ensures.items (ap source_logs c.new.ensures.source)

pub returns : goal.returns
returns c =
    group_last c.loop-all.groups.items c.push-2.new.self.items c.new-2.result (source_logs c.loop-all.all) _
    c.loop-all.invariant c.in_ok-push-2.ensures.items (ap source_logs c.new-2.ensures.source)
