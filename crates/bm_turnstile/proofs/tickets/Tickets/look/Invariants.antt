use Rattle.std.proofs.Common.{◌≡◌}
use Rattle.bm_turnstile.proofs.tickets.Tickets.look.Given as goal

abbrev pub invariant-loop : goal.invariant-loop
invariant-loop g l = (l.seat.me ≡ l.fn.seat.me) × (l.seat.table_id ≡ l.fn.seat.table_id)
