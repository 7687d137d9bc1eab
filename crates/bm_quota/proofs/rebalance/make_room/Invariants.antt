use Rattle.std.proofs.Common.{◌≡◌, length}
use Rattle.bm_quota.proofs.StepLemmas.{AreRooms}
use Rattle.bm_quota.proofs.rebalance.make_room.Given as goal

abbrev pub invariant-loop-i : goal.invariant-loop-i
invariant-loop-i l = record { long : length l.rooms ≡ length l.fn.rooms; are : AreRooms l.active l.quotas l.rooms l.i }
