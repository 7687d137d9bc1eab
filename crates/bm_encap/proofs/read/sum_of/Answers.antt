use Rattle.std.proofs.Common.{rules}
use Rattle.bm_encap.proofs.read.sum_of.Goals as goal

pub returns : goal.returns
returns c = search rules
