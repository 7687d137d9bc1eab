use Rattle.bm_lifetime.proofs.laws.fewer_changes.Goals as goal
use Rattle.bm_lifetime.proofs.Worth.{first_law}

pub returns : goal.returns
returns c = first_law c.args.script.now c.args.count
