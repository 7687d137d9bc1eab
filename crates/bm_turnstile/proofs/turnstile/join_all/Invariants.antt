use Rattle.std.proofs.Common.{◌≡◌, ◌++◌, map}
use Rattle.bm_turnstile.specs.Views.{old_of, AllIn}
use Rattle.bm_turnstile.proofs.turnstile.join_all.Given as goal

abbrev pub invariant-loop-seat : goal.invariant-loop-seat
invariant-loop-seat g l = record {
  own : l.first.table_id ≡ l.fn.first.table_id;
  all : AllIn (λ s. s.table ≡ l.fn.tickets.table.shared.table_id) l.rest.items;
  view : l.first.me ≡ (record l.fn.first.me.0 { olds = l.first.me.0.olds }, l.fn.first.me.1);
  olds : map old_of l.rest.items ++ l.first.me.0.olds ≡ map old_of l.fn.all.items ++ l.fn.first.me.0.olds;
}

abbrev pub decreases-loop-seat : goal.decreases-loop-seat
decreases-loop-seat g l = goal.left-loop-seat g l
