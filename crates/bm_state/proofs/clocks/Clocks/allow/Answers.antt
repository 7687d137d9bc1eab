use Rattle.std.proofs.Common.{rules}
use Rattle.bm_state.proofs.clocks.Clocks.allow.Goals as goal

pub returns-then-clock-self : goal.returns-then-clock-self
returns-then-clock-self c = search rules
