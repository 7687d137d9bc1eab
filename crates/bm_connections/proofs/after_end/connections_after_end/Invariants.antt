use Rattle.std.proofs.Common.{◌≡◌, ◌≤◌, count_by, nat_lt, take}
use Rattle.bm_connections.specs.declared.connection.Connection.{Connection}
use Rattle.bm_connections.proofs.after_end.connections_after_end.Given as goal

abbrev pub invariant-loop-c : goal.invariant-loop-c
invariant-loop-c l = record {
  counted : l.count ≡ count_by (λ (c : Connection). nat_lt 0 c.tally.after_its_end) (take l.c-index l.table);
  few : l.count ≤ l.c-index;
}
