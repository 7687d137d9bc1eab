use Rattle.bm_lifetime.proofs.laws.longer_wait.Goals as goal
use Rattle.bm_lifetime.proofs.Worth.{wait_law}

pub returns : goal.returns
returns c = wait_law c.args.script.now c.args.before c.args.wait c.requires
