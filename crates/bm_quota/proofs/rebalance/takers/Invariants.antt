use Rattle.std.proofs.Common.{◌≡◌, ◌++◌, drop}
use Rattle.bm_quota.specs.Rebalancing as rule
use Rattle.bm_quota.specs.Inside.Rooms.{room_in}
use Rattle.bm_quota.proofs.rebalance.takers.Given as goal

abbrev pub invariant-loop-s : goal.invariant-loop-s
invariant-loop-s l =
    l.takers.items ++ rule.takers (room_in l.rooms) (drop l.s-index l.active) ≡ rule.takers (room_in l.rooms) l.active
