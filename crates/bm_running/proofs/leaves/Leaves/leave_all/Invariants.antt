use Rattle.std.proofs.Common.{◌≡◌, ℕ, take}
use Rattle.std.specs.BTreeMap as tree
use Rattle.std.specs.Ordering.{nat_cmp}
use Rattle.bm_running.specs.Inside.Leaves.{AreLeft, listed}
use Rattle.bm_running.proofs.leaves.Leaves.leave_all.Given as goal

abbrev pub invariant-loop-place : goal.invariant-loop-place
invariant-loop-place l = record {
  left : ((s : ℕ) → AreLeft l.plan l.changes (take 0 l.list) s (listed (tree.get nat_cmp l.fn.self.left s)))
      → (s : ℕ) → AreLeft l.plan l.changes (take l.place l.list) s (listed (tree.get nat_cmp l.self.left s));
  drained : l.self.drained ≡ l.fn.self.drained;
}
