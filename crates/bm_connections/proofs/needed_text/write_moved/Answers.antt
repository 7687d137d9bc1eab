use Rattle.std.proofs.Common.{append_assoc}
use Rattle.bm_connections.proofs.needed_text.write_moved.Goals as goal

pub returns : goal.returns
returns c = simp append_assoc c.writeln.ensures.bytes
