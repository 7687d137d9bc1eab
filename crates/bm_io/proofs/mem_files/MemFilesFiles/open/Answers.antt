use Rattle.std.proofs.Common.{rules}
use Rattle.bm_io.proofs.mem_files.MemFilesFiles.open.Goals as goal

pub returns-then-missing-clause-cause : goal.returns-then-missing-clause-cause
returns-then-missing-clause-cause c = search rules

pub returns-then-missing-clause-open : goal.returns-then-missing-clause-open
returns-then-missing-clause-open c = search rules

pub returns-then-missing-clause-opens : goal.returns-then-missing-clause-opens
returns-then-missing-clause-opens c = search rules

pub returns-then-missing-clause-faults : goal.returns-then-missing-clause-faults
returns-then-missing-clause-faults c = search rules
