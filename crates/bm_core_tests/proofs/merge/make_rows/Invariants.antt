use Rattle.std.proofs.Common.{map}
use Rattle.std.specs.List.{AllByRecursion}
use Rattle.bm_merge.specs.Rising.{IsRising}
use Rattle.bm_core_tests.specs.declared.merge.Row.{Row}
use Rattle.bm_core_tests.proofs.merge.make_rows.Given as goal

abbrev pub invariant-loop-log : goal.invariant-loop-log
invariant-loop-log l = AllByRecursion IsRising (map (λ (row : Row). row.events.items) l.rows.items)
