use Rattle.std.proofs.Common.{rules}
use Rattle.bm_fault.proofs.faults.Faults.fate.Goals as goal

pub returns-clause-gives : goal.returns-clause-gives
returns-clause-gives c = search rules
