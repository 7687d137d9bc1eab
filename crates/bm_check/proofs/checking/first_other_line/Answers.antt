use Rattle.std.proofs.Common.{rules}
use Rattle.bm_check.proofs.checking.first_other_line.Goals as goal

pub returns-clause-least : goal.returns-clause-least
returns-clause-least c = search rules
