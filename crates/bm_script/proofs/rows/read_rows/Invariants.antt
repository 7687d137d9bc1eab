use Rattle.std.proofs.Common.{◌≡◌, ◌+◌, drop}
use Rattle.bm_script.specs.Commands.{rows_from}
use Rattle.bm_script.proofs.Fronts.{with_rows}
use Rattle.toml.specs.View.{items_view}
use Rattle.bm_script.proofs.rows.read_rows.Given as goal

abbrev pub invariant-loop-value : goal.invariant-loop-value
invariant-loop-value l = record {
  so_far : with_rows l.rows.items (rows_from l.number (items_view (drop l.value-index l.tables)))
      ≡ rows_from 1 (items_view l.tables);
  number : l.number ≡ l.value-index + 1;
}
