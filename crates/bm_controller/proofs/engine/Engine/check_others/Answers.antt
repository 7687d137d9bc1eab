use Rattle.std.proofs.Common.{rules}
use Rattle.bm_controller.proofs.engine.Engine.check_others.Goals as goal

pub returns : goal.returns
returns c = search rules
