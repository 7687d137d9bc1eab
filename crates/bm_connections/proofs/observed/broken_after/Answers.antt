use Rattle.std.proofs.Common.{rules}
use Rattle.bm_connections.proofs.observed.broken_after.Goals as goal

pub returns-in-None : goal.returns-in-None
returns-in-None c = search rules
