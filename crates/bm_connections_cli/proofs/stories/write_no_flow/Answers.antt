use Rattle.std.proofs.Common.{append_assoc, rules}
use Rattle.bm_connections_cli.proofs.stories.write_no_flow.Goals as goal

pub returns : goal.returns
returns c = simp append_assoc (search rules)
