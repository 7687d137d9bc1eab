use Rattle.std.proofs.Common.{◌≡◌, ℕ, ◌<◌, ◌≤◌, ◌++◌, length, take, drop, get_or}
use Rattle.bm_rows.specs.Rows.{glued, items_of}
use Rattle.bm_rows.proofs.rows.last_column.Given as goal

abbrev pub invariant-loop-row : goal.invariant-loop-row
invariant-loop-row g l = record {
  long : length l.column.items ≡ l.row-index;
  full : (k : ℕ) (d : _) → l.row-index ≤ k → k < length l.row-items → 0 < length (get_or l.row-items k d).items;
  rows : glued (take l.row-index (items_of l.row-items)) l.column.items ++ drop l.row-index (items_of l.row-items)
      ≡ items_of l.fn.rows.items;
}
