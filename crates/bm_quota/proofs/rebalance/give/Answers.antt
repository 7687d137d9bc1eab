use Rattle.std.proofs.Common.{sym, ◌∙◌, arith}
use Rattle.bm_quota.proofs.StepLemmas.{Gave-kept, Gave-given}
use Rattle.bm_quota.proofs.rebalance.give.Goals as goal
use Rattle.bm_quota.proofs.rebalance.give.Goals.{then-not-has_kept+in_ok-push, else-not-has_kept}
use Rattle.bm_quota.specs.Inside.Rooms.{room_in, given, left}

pub loop-bucket-preserved : goal.loop-bucket-preserved
loop-bucket-preserved c =
    elim c.if-not-has_kept.branch [
      | then-not-has_kept+in_ok-push w ↦ record {
        long = omega arith;
        gave = rw (w.buckets-is, w.in_ok-push.ensures.items) (
            Gave-given c.args.owner.now c.loop-bucket.bucket (record { 0 = 0 }) c.loop-bucket.rooms c.has_kept.new.rooms
            c.loop-bucket.buckets.items
            (given (room_in c.args.rooms.now) 0 c.args.owner.now) (left (room_in c.args.rooms.now) c.args.owner.now)
            c.loop-bucket-test.true c.has_kept.ensures.after
            (sym c.has_kept.ensures.room ∙ w.if-not-has_kept.true) c.loop-bucket.invariant.gave);
      }
      | else-not-has_kept w ↦ record {
        long = omega arith;
        gave = rw w.buckets-is (
            Gave-kept c.args.owner.now c.loop-bucket.bucket (record { 0 = 0 }) c.loop-bucket.rooms c.has_kept.new.rooms
            c.loop-bucket.buckets.items
            (given (room_in c.args.rooms.now) 0 c.args.owner.now) (left (room_in c.args.rooms.now) c.args.owner.now)
            c.loop-bucket-test.true c.has_kept.ensures.after
            (sym c.has_kept.ensures.room ∙ w.if-not-has_kept.false) c.loop-bucket.invariant.gave);
      }
    ]
