use Rattle.std.proofs.Common.{rules}
use Rattle.bm_encap.proofs.header.next_hop.Goals as goal

pub returns-in-Some-Some : goal.returns-in-Some-Some
returns-in-Some-Some c = search rules
