use Rattle.std.proofs.Common.{◌≡◌, All, [], length}
use Rattle.bm_server.proofs.seats.empty_rows.Given as goal

abbrev pub invariant-loop : goal.invariant-loop
invariant-loop l = (length l.rows.items ≡ l.counter) × All (λ row. row.items ≡ []) l.rows.items
