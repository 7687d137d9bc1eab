use Rattle.std.proofs.Common.{rules}
use Rattle.bm_ipv4.proofs.checksum.folded.Goals as goal

pub returns-else-sum-eq0 : goal.returns-else-sum-eq0
returns-else-sum-eq0 c = search rules
