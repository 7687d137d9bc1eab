use Rattle.std.proofs.Common.{rules}
use Rattle.bm_quota.proofs.share.due_to.Goals as goal

pub returns : goal.returns
returns c = search rules
