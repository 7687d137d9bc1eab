use Rattle.std.proofs.Common.{◌≡◌, ℕ, ◌+◌, map, take, length, reverse, slice_get, Some}
use Rattle.bm_rows.specs.Rows.{items_of}
use Rattle.bm_world.specs.Inside.Served.{AreBooksThere}
use Rattle.bm_world.proofs.servers.finish_all.Given as goal

abbrev pub invariant-loop-server : goal.invariant-loop-server
invariant-loop-server l = record {
  left : l.left.items ≡ take (length l.left.items) l.fn.servers.items;
  rest : items_of l.rest.items ≡ map (take (length l.left.items)) (items_of l.fn.rows.items);
  count : length l.left.items + length l.all.items ≡ length l.fn.servers.items;
  books : (k : ℕ) (books : _) → slice_get (reverse l.all.items) k ≡ Some books
      → AreBooksThere l.fn.servers.items (items_of l.fn.rows.items) (length l.left.items + k) books;
}

abbrev pub decreases-loop-server : goal.decreases-loop-server
decreases-loop-server l = length l.left.items
