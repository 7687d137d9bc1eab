use Rattle.std.proofs.Common.{append_assoc, rules}
use Rattle.bm_connections_cli.proofs.lifetime.write_moves_raise.Goals as goal

pub returns : goal.returns
returns c = simp append_assoc (search rules)
