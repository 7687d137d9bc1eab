use Rattle.std.proofs.Common.{rules}
use Rattle.bm_stream.proofs.packets.Key.of.Goals as goal

pub returns : goal.returns
returns c = search rules
