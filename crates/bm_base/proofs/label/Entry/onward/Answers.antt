use Rattle.std.proofs.Common.{rules}
use Rattle.bm_base.proofs.label.Entry.onward.Goals as goal

pub returns-in-Chained : goal.returns-in-Chained
returns-in-Chained c = search rules
