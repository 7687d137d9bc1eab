use Rattle.std.proofs.Common.{rules}
use Rattle.bm_pcapng.proofs.time.Resolution.of.Goals as goal

pub returns-else-octet-lt128 : goal.returns-else-octet-lt128
returns-else-octet-lt128 c = search rules
