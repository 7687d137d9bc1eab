use Rattle.std.proofs.Common.{◌≡◌, ◌+◌, ◌++◌, length, take, drop}
use Rattle.std.specs.Vec.Iter.{into_iter_items, into_iter_len}
use Rattle.bm_rows.specs.Rows.{glued, items_of}
use Rattle.bm_rows.proofs.rows.add_column.Given as goal

abbrev pub invariant-loop-row : goal.invariant-loop-row
invariant-loop-row g l = record {
  count : into_iter_len l.items + l.row-index ≡ length l.fn.column.items;
  left : into_iter_items l.items ≡ drop l.row-index l.fn.column.items;
  rows : items_of l.row-items ≡ glued (take l.row-index (items_of l.fn.rows.items)) l.fn.column.items
      ++ drop l.row-index (items_of l.fn.rows.items);
}
