use Rattle.std.proofs.Common.{drop}
use Rattle.bm_fault.proofs.RowLemmas.{SaysAll}
use Rattle.bm_fault.proofs.rows.FaultRows.new.Given as goal

abbrev pub invariant-loop-row : goal.invariant-loop-row
invariant-loop-row l = SaysAll l.kept (drop l.row-index l.rows) l.rows
