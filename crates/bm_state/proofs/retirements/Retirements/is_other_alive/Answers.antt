use Rattle.std.proofs.Common.{rules}
use Rattle.bm_state.proofs.retirements.Retirements.is_other_alive.Goals as goal

pub returns-then-is_alive : goal.returns-then-is_alive
returns-then-is_alive c = search rules

pub loop-holder-preserved : goal.loop-holder-preserved
loop-holder-preserved c = search rules
