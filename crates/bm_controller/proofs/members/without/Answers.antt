use Rattle.std.proofs.Common.{rules}
use Rattle.bm_controller.proofs.members.without.Goals as goal

pub returns : goal.returns
returns c = search rules
