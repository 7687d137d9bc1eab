use Rattle.std.proofs.Common.{rules}
use Rattle.bm_fault.proofs.rows.add_fate.Goals as goal

pub returns-in_ok-insert : goal.returns-in_ok-insert
returns-in_ok-insert c = search rules
