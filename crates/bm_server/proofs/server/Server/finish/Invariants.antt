use Rattle.std.proofs.Common.{◌≡◌, ℕ, ◌+◌, map, take, length, reverse, slice_get, Some}
use Rattle.bm_rows.specs.Rows.{items_of}
use Rattle.bm_server.specs.Books.{IsBookOf}
use Rattle.bm_server.proofs.server.Server.finish.Given as goal

abbrev pub invariant-loop-turnstile : goal.invariant-loop-turnstile
invariant-loop-turnstile l = record {
  left : l.left.items ≡ take (length l.left.items) l.fn.self.tables;
  rows : items_of l.rows.items ≡ map (take (length l.left.items)) l.fn.seats.items;
  count : length l.left.items + length l.books.items ≡ length l.fn.self.tables;
  books : (k : ℕ) (book : _) → slice_get (reverse l.books.items) k ≡ Some book
      → IsBookOf l.fn.self l.fn.seats.items (length l.left.items + k) book;
}

abbrev pub decreases-loop-turnstile : goal.decreases-loop-turnstile
decreases-loop-turnstile l = length l.left.items
