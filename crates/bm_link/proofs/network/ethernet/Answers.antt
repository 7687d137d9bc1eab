use Rattle.std.proofs.Common.{arith}
use Rattle.std.proofs.lemmas.Grind.{common_steps}
use Rattle.bm_link.specs.Links.{ethernet_part}
use Rattle.bm_link.proofs.network.ethernet.Goals as goal

pub returns-clause-part : goal.returns-clause-part
unfolding ethernet_part
returns-clause-part c = grind (arith, common_steps)
