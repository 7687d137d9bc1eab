use Rattle.std.proofs.Common.{◌≡◌, ℕ}
use Rattle.std.specs.BTreeMap as tree
use Rattle.std.specs.Ordering.{nat_cmp}
use Rattle.bm_state.specs.Moves.{bucket_moves, listed}
use Rattle.bm_state.proofs.moves.Moves.new.Given as goal

abbrev pub invariant-loop-change : goal.invariant-loop-change
invariant-loop-change l = (q : ℕ) → listed (tree.get nat_cmp l.moves.lists q) ≡ bucket_moves l.plan q l.change
