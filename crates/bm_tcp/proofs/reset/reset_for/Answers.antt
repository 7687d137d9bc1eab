use Rattle.std.proofs.Common.{rules}
use Rattle.bm_tcp.specs.Resets.{reset_packet}
use Rattle.bm_tcp.proofs.reset.reset_for.Goals as goal

pub returns : goal.returns
unfolding reset_packet
returns c = search rules
