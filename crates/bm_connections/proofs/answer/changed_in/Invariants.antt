use Rattle.std.proofs.Common.{◌≡◌, ◌≤◌, count_by, take}
use Rattle.bm_connections.specs.declared.compared.Compared.{Compared}
use Rattle.bm_connections.specs.Answers.{is_by_the_change}
use Rattle.bm_connections.specs.Base.{compared_with}
use Rattle.bm_connections.proofs.answer.changed_in.Given as goal

abbrev pub invariant-loop-place : goal.invariant-loop-place
invariant-loop-place l = record {
  counted : l.count ≡ count_by (λ (c : Compared). is_by_the_change c.origin)
      (take l.place (compared_with l.table l.wholes));
  few : l.count ≤ l.place;
}
