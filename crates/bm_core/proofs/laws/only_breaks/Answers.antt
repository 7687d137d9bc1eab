use Rattle.bm_core.proofs.laws.only_breaks.Goals as goal
use Rattle.bm_core.proofs.Breaking.{break_law}

pub returns : goal.returns
returns c = λ past clock what is. break_law c.args.stage.now past clock what is
