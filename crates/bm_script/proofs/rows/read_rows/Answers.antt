use Rattle.bm_script.proofs.Fronts.{rows-bad, rows-end, rows-fault, rows-more}
use Rattle.std.proofs.Common.{arith}
use Rattle.std.proofs.lemmas.Result.{err_from_is_err_and}
use Rattle.toml.specs.View.{table_view}
use Rattle.bm_script.proofs.rows.read_rows.Goals as goal

pub loop-value-preserved : goal.loop-value-preserved
loop-value-preserved c = record {
  so_far = rw c.in_ok-push.ensures.items
      (rows-more c.loop-value.number c.args.tables.now c.loop-value.value-index c.value-item.result
      c.loop-value.rows.items _ (table_view c.in-Some.table.now) _ c.loop-value-test.true
      (rw (← c.value-item.is) c.in-Some.ensures) c.in_ok-read_row.ensures c.loop-value.invariant.so_far);
  number = omega (arith, c.loop-value.invariant.number);
}

pub returns-in_default : goal.returns-in_default
returns-in_default c = λ _.
    rows-bad c.loop-value.number c.args.tables.now c.loop-value.value-index c.value-item.result
    c.loop-value.rows.items _ c.loop-value-test.true (rw (← c.value-item.is) c.in_default.ensures)
    c.loop-value.invariant.so_far

pub returns-in_err-read_row : goal.returns-in_err-read_row
returns-in_err-read_row c =
    let p = err_from_is_err_and c.from_residual.result c.from_residual.ensures.1 in
    rw (p.1, p.2)
    (λ other. rows-fault c.loop-value.number c.args.tables.now c.loop-value.value-index c.value-item.result
    c.loop-value.rows.items _ (table_view c.in-Some.table.now) c.in_err-read_row.field-0.0 c.loop-value-test.true
    (rw (← c.value-item.is) c.in-Some.ensures) (c.in_err-read_row.ensures other) c.loop-value.invariant.so_far)

pub returns : goal.returns
returns c =
    rw c.of.ensures
    (rows-end c.loop-value.number c.args.tables.now c.loop-value.value-index c.loop-value.rows.items _
    c.loop-value-test.false c.loop-value.invariant.so_far)
