use Rattle.std.proofs.Common.{rules}
use Rattle.bm_connections.proofs.observed.tallied.Goals as goal

pub returns : goal.returns
returns c = search rules
