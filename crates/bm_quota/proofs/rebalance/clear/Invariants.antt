use Rattle.std.proofs.Common.{◌≡◌, length, drop}
use Rattle.bm_base.specs.declared.ids.ServerId.{ServerId}
use Rattle.bm_quota.specs.Inside.Rooms.{cleared, room_in}
use Rattle.bm_quota.proofs.rebalance.clear.Given as goal

abbrev pub invariant-loop-s : goal.invariant-loop-s
invariant-loop-s l = record {
  long : length l.rooms ≡ length l.fn.rooms;
  are : (s : ServerId)
      → cleared (drop l.s-index l.servers) (room_in l.rooms) s ≡ cleared l.servers (room_in l.fn.rooms) s;
}
