use Rattle.std.proofs.Common.{◌≡◌, ℕ, length, slice_get, Some}
use Rattle.bm_rows.specs.Rows.{items_of}
use Rattle.bm_server.specs.Seats.{IsNewSeat}
use Rattle.bm_server.specs.Servings.{serving}
use Rattle.bm_server.proofs.seats.make_shards.Given as goal

abbrev pub invariant-loop-number : goal.invariant-loop-number
invariant-loop-number l = record {
  made : length l.made.items ≡ l.number;
  count : length l.rows.items ≡ l.seats;
  each : (i : ℕ) (seat : _) → slice_get (items_of l.rows.items) i ≡ Some seat
      → IsNewSeat (serving l.id l.capacity l.timeout l.seats l.made.items) i seat;
}
