use Rattle.std.proofs.Common.{◌≡◌, ℕ, length}
use Rattle.std.specs.BTreeMap as tree
use Rattle.std.specs.Ordering.{nat_cmp}
use Rattle.bm_state.specs.Inside.Moves.{with_moves}
use Rattle.bm_state.specs.Moves.{listed}
use Rattle.bm_state.proofs.moves.Moves.add_all.Given as goal

abbrev pub invariant-loop-first : goal.invariant-loop-first
invariant-loop-first l =
    (q : ℕ) → with_moves l.change l.rest q (listed (tree.get nat_cmp l.self.lists q))
    ≡ with_moves l.change l.moves q (listed (tree.get nat_cmp l.fn.self.lists q))

abbrev pub decreases-loop-first : goal.decreases-loop-first
decreases-loop-first l = length l.rest
