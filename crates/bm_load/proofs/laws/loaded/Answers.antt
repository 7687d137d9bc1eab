use Rattle.bm_load.proofs.laws.loaded.Goals as goal
use Rattle.bm_load.proofs.Loading.{loaded}

pub returns : goal.returns
returns c = loaded c.args.n c.requires.few.0 c.requires.few.1 c.args.h.now c.requires.run
