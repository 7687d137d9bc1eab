use Rattle.bm_core.proofs.laws.refused.Goals as goal
use Rattle.bm_core.proofs.Lawful.{refused_law}

pub returns : goal.returns
returns c = refused_law c.args.h.now c.args.place c.requires.run c.requires.refused
