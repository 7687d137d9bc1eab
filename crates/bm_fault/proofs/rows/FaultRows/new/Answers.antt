use Rattle.std.proofs.lemmas.List.{drop_all}
use Rattle.bm_fault.proofs.RowLemmas.{says_all}
use Rattle.bm_fault.proofs.rows.FaultRows.new.Goals as goal

pub returns : goal.returns
returns c =
    says_all c.loop-row.kept c.args.rows.now
    (rw (drop_all c.loop-row.row-index c.args.rows.now c.loop-row-test.false) at c.loop-row.invariant)
