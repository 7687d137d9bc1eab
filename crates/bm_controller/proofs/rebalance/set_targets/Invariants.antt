use Rattle.std.proofs.Common.{◌≡◌, ℕ, drop, length}
use Rattle.bm_controller.proofs.rebalance.set_targets.Given as goal
use Rattle.bm_controller.specs.Inside.Targets.{with_targets, target_in}

abbrev pub invariant-loop-m : goal.invariant-loop-m
invariant-loop-m l = record {
  long : length l.targets ≡ length l.fn.targets;
  are : (b : ℕ) → with_targets l.racks l.rack (drop l.m-index l.moves) (target_in l.targets) b
      ≡ with_targets l.racks l.rack l.moves (target_in l.fn.targets) b;
}
