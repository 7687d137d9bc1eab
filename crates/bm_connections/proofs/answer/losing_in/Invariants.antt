use Rattle.std.proofs.Common.{◌≡◌, ◌≤◌, count_by, take}
use Rattle.bm_connections.specs.declared.connection.Connection.{Connection}
use Rattle.bm_connections.proofs.answer.losing_in.Given as goal

abbrev pub invariant-loop-c : goal.invariant-loop-c
invariant-loop-c l = record {
  counted : l.count ≡ count_by (λ (c : Connection). c.losing_data) (take l.c-index l.table);
  few : l.count ≤ l.c-index;
}
