use Rattle.std.proofs.Common.{length}
use Rattle.bm_controller.proofs.SetTargets.{listed-passed, listed-took, listed-all}
use Rattle.bm_controller.proofs.rebalance.listed.Goals as goal
use Rattle.bm_controller.proofs.rebalance.listed.Goals.{in-Some+in_ok-push, in_default}
use Rattle.bm_controller.specs.Inside.Targets.{target_in}
use Rattle.bm_quota.specs.Parts as parts

pub loop-bucket-preserved : goal.loop-bucket-preserved
loop-bucket-preserved c =
    elim c.match-target.branch [
      | in-Some+in_ok-push w ↦ rw (w.moves-is, w.in_ok-push.ensures.items)
          (listed-took (target_in c.args.targets.now) (length c.args.targets.now) c.loop-bucket.bucket w.in-Some.to
          c.loop-bucket.moves.items
          (parts.listed (target_in c.args.targets.now) 0 (length c.args.targets.now)) c.loop-bucket-test.true
          w.in-Some.is c.loop-bucket.invariant)
      | in_default w ↦ rw w.moves-is
          (listed-passed (target_in c.args.targets.now) (length c.args.targets.now) c.loop-bucket.bucket
          c.loop-bucket.moves.items
          (parts.listed (target_in c.args.targets.now) 0 (length c.args.targets.now)) c.loop-bucket-test.true
          w.in_default.is c.loop-bucket.invariant)
    ]

pub returns : goal.returns
returns c =
    listed-all (target_in c.args.targets.now) (length c.args.targets.now) c.loop-bucket.bucket c.loop-bucket.moves.items
    (parts.listed (target_in c.args.targets.now) 0 (length c.args.targets.now)) c.loop-bucket-test.false
    c.loop-bucket.invariant
