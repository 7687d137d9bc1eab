use Rattle.std.proofs.Common.{map}
use Rattle.bm_controller.proofs.RackFacts.{rack_more}
use Rattle.bm_controller.proofs.racks.racks_of.Goals as goal

pub loop-s-preserved : goal.loop-s-preserved
loop-s-preserved g c = λ p.
    rack_more p.rack c.args.servers.now c.loop-s.s-index (record { 0 = 0 }) c.loop-s.racks.items
    (map p.rack c.args.servers.now) c.push.new.self.items c.rack.result c.loop-s-test.true (c.rack.ensures.rack p)
    c.in_ok-push.ensures.items (c.loop-s.invariant p)
