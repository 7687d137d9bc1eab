use Rattle.std.proofs.Common.{rules}
use Rattle.bm_controller.proofs.engine.Engine.check_fits.Goals as goal

pub returns-then-eq : goal.returns-then-eq
returns-then-eq c = search rules

pub returns : goal.returns
returns c = search rules

pub returns-then-from-bucket : goal.returns-then-from-bucket
returns-then-from-bucket c = search rules
