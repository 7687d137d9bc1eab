use Rattle.std.proofs.Common.{◌≡◌, All, [], length}
use Rattle.bm_world.proofs.servers.empty_rows.Given as goal

abbrev pub invariant-loop : goal.invariant-loop
invariant-loop l = (length l.rows.items ≡ l.counter) × All (λ r. r.items ≡ []) l.rows.items
