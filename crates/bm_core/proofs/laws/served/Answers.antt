use Rattle.bm_core.proofs.laws.served.Goals as goal
use Rattle.bm_core.proofs.Lawful.{served_law}

pub returns : goal.returns
returns c = served_law c.args.h.now c.args.packet c.requires.run c.requires.unbroken
