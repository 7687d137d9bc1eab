use Rattle.std.proofs.Common.{◌≡◌, ◌++◌, drop, map}
use Rattle.bm_controller.proofs.racks.racks_of.Given as goal
use Rattle.bm_policy.specs.Policies.{IsPolicy}

abbrev pub invariant-loop-s : goal.invariant-loop-s
invariant-loop-s g l = (p : IsPolicy g.P.Fn l.policy.rule l.policy.racks)
    → l.racks.items ++ map p.rack (drop l.s-index l.servers) ≡ map p.rack l.servers
