use Rattle.std.proofs.Common.{arith}
use Rattle.std.proofs.lemmas.Grind.{common_steps}
use Rattle.bm_tcp.proofs.segment.tcp_data.Goals as goal

pub returns-then-offset-octets : goal.returns-then-offset-octets
returns-then-offset-octets c = grind (arith, common_steps)
