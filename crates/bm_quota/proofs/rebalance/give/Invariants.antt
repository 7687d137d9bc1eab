use Rattle.std.proofs.Common.{◌≡◌, length}
use Rattle.bm_quota.proofs.StepLemmas.{Gave}
use Rattle.bm_quota.specs.Inside.Rooms.{room_in, given, left}
use Rattle.bm_quota.proofs.rebalance.give.Given as goal

abbrev pub invariant-loop-bucket : goal.invariant-loop-bucket
invariant-loop-bucket l = record {
  long : length l.rooms ≡ length l.fn.rooms;
  gave : Gave l.owner l.bucket (room_in l.rooms) l.buckets.items (given (room_in l.fn.rooms) 0 l.owner)
      (left (room_in l.fn.rooms) l.owner);
}
