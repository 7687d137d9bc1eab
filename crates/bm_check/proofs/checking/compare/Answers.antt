use Rattle.std.proofs.Common.{rules}
use Rattle.bm_check.proofs.checking.compare.Goals as goal

pub returns-in-Some : goal.returns-in-Some
returns-in-Some c = search rules
