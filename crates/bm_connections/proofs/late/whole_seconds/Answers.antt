use Rattle.std.proofs.Common.{rules}
use Rattle.bm_connections.proofs.late.whole_seconds.Goals as goal

pub returns-else-nanoseconds-eq0 : goal.returns-else-nanoseconds-eq0
returns-else-nanoseconds-eq0 c = search rules
