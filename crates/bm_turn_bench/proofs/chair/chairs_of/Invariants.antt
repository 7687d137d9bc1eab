use Rattle.std.proofs.Common.{◌≡◌, ◌+◌, All, length}
use Rattle.std.specs.Arc.{arc_value}
use Rattle.std.specs.Vec.Iter.{into_iter_items, into_iter_len}
use Rattle.bm_turn_bench.proofs.chair.chairs_of.Given as goal

abbrev pub invariant-loop-seat : goal.invariant-loop-seat
invariant-loop-seat l = record {
  own : All (λ seat. seat.table ≡ arc_value l.turnstile) (into_iter_items l.seat-iterator);
  new : All (λ seat. seat.turns ≡ 0) (into_iter_items l.seat-iterator);
  long : length l.chairs.items + into_iter_len l.seat-iterator ≡ length l.fn.seats.items;
}
