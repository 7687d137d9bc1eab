use Rattle.std.proofs.Common.{Err, Ok}
use Rattle.std.proofs.lemmas.Result.{err_from_is_err_and}
use Rattle.bm_script.proofs.Whole.{answer-fault, answer-sound}
use Rattle.bm_script.proofs.Worded.{worded-done, worded-ok}
use Rattle.toml.specs.View.{table_view}
use Rattle.bm_script.proofs.verbs.read_worded_script.Goals as goal

pub returns-in_err-script-clause-refusals : goal.returns-in_err-script-clause-refusals
returns-in_err-script-clause-refusals c =
    let p =
    err_from_is_err_and c.from_residual-in_err-script.result c.from_residual-in_err-script.ensures.1 in
    rw (p.1, p.2)
    (answer-fault c.args.text.now (table_view c.in_ok-table.table) c.in_ok-table.ensures.ok
    (Err c.in_err-script.field-0.0) c.in_err-script.ensures.gives)

pub returns-clause-gives : goal.returns-clause-gives
returns-clause-gives c =
    worded-ok c.args.text.now (table_view c.in_ok-table.table) c.in_ok-table.ensures.ok c.in_ok-script.script
    c.in_ok-verbs.verbs c.in_ok-script.ensures.gives
    (rw (← c.version_of.ensures, ← c.tables_of.ensures) c.in_ok-verbs.ensures)

pub returns-clause-sound : goal.returns-clause-sound
returns-clause-sound c =
    answer-sound c.args.text.now (table_view c.in_ok-table.table) c.in_ok-table.ensures.ok
    (Ok c.in_ok-script.script) c.in_ok-script.ensures.gives c.in_ok-script.ensures.membership

pub returns-clause-done : goal.returns-clause-done
returns-clause-done c =
    worded-done c.args.text.now (table_view c.in_ok-table.table) c.in_ok-table.ensures.ok c.in_ok-script.script
    c.in_ok-verbs.verbs c.in_ok-script.ensures.gives
    (rw (← c.version_of.ensures, ← c.tables_of.ensures) c.in_ok-verbs.ensures)
