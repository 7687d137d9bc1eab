use Rattle.std.proofs.Common.{◌≡◌, ℕ, ◌≤◌, length}
use Rattle.std.specs.Prelude.{slice_index_or}
use Rattle.bm_state.proofs.slots.reach.Given as goal

abbrev pub invariant-loop-place : goal.invariant-loop-place
invariant-loop-place g l = record {
  same : (q : ℕ) → slice_index_or l.values.items q l.default ≡ slice_index_or l.initial.values.items q l.default;
  count : l._place ≤ length l.values.items;
}
