use Rattle.std.proofs.Common.{rules}
use Rattle.bm_check.proofs.lines.is_closing.Goals as goal

pub returns-else-begins-2 : goal.returns-else-begins-2
returns-else-begins-2 c = search rules
