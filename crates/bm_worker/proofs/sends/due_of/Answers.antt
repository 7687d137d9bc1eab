use Rattle.std.proofs.Common.{rules}
use Rattle.bm_worker.proofs.sends.due_of.Goals as goal

pub returns : goal.returns
returns c = search rules
