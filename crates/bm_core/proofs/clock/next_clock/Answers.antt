use Rattle.std.proofs.Common.{rules}
use Rattle.bm_core.proofs.clock.next_clock.Goals as goal

pub returns : goal.returns
returns c = search rules
