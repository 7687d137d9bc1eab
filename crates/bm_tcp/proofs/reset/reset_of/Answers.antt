use Rattle.std.proofs.Common.{rules}
use Rattle.bm_tcp.specs.Resets.{reset_of}
use Rattle.bm_tcp.proofs.reset.reset_of.Goals as goal

pub returns-then-has : goal.returns-then-has
unfolding reset_of
returns-then-has c = search rules
