use Rattle.std.proofs.Common.{None}
use Rattle.bm_connections.specs.Inside.Loads.{load}
use Rattle.bm_connections.proofs.Counting.{loads_observed}
use Rattle.bm_connections.proofs.servers.Loads.observe.Goals as goal

pub observe_arrival-requires : goal.observe_arrival-requires
observe_arrival-requires c = c.requires c.in-Some.arrival.server

pub returns-in_ok-observe_arrival-in-Some : goal.returns-in_ok-observe_arrival-in-Some
returns-in_ok-observe_arrival-in-Some c = λ past k.
    loads_observed past c.args.event.now None c.in-Some.arrival (load c.args.self.now) (load c.observe_arrival.new.self)
    (cc) c.in_ok-observe_arrival-in-Some.ensures k
