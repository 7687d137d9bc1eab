use Rattle.std.proofs.Common.{rules}
use Rattle.bm_connections_cli.proofs.advice.last_change.Goals as goal

pub returns : goal.returns
returns c = search rules
