use Rattle.std.proofs.Common.{◌≡◌, length}
use Rattle.bm_turnstile.specs.Views.{NewFrom, AllIn, given_of}
use Rattle.bm_turnstile.proofs.turnstile.Turnstile.seated.Given as goal

abbrev pub invariant-loop-number : goal.invariant-loop-number
invariant-loop-number g l = record {
  count : length l.all.items ≡ l.number;
  given : given_of l.all.items ≡ l.number;
  all : AllIn (λ s. s.table ≡ l.tickets.table.shared.table_id) l.all.items;
  new : NewFrom (g.T.Booked.fixed l.fn.state) 0 l.all.items;
}
