use Rattle.std.proofs.Common.{◌≡◌, ◌++◌, ◌-◌, length}
use Rattle.bm_controller.proofs.rebalance.listed.Given as goal
use Rattle.bm_controller.specs.Inside.Targets.{target_in}
use Rattle.bm_quota.specs.Parts as parts

abbrev pub invariant-loop-bucket : goal.invariant-loop-bucket
invariant-loop-bucket l =
    l.moves.items ++ parts.listed (target_in l.targets) l.bucket (length l.targets - l.bucket)
    ≡ parts.listed (target_in l.targets) 0 (length l.targets)
