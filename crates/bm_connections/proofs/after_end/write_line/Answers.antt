use Rattle.std.proofs.Common.{append_assoc, rules}
use Rattle.bm_connections.proofs.after_end.write_line.Goals as goal

pub returns : goal.returns
returns c = simp append_assoc (search rules)
