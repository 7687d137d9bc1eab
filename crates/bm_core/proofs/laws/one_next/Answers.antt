use Rattle.bm_core.proofs.laws.one_next.Goals as goal
use Rattle.bm_core.proofs.Determined.{next_law}

pub returns : goal.returns
returns c = λ mux fates past a b p q. next_law mux fates c.args.stage.now past a b p q
