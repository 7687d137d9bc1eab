use Rattle.std.proofs.Common.{rules}
use Rattle.bm_tcp.specs.Resets.{packet_of}
use Rattle.bm_tcp.proofs.reset.packet_of.Goals as goal

pub returns : goal.returns
unfolding packet_of
returns c = search rules
