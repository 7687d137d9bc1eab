use Rattle.std.proofs.Common.{rules}
use Rattle.bm_seq.specs.Receivers.{acceptable}
use Rattle.bm_seq.proofs.receiver.acceptable.Goals as goal

pub returns-else-distance-window : goal.returns-else-distance-window
unfolding acceptable
returns-else-distance-window c = search rules
