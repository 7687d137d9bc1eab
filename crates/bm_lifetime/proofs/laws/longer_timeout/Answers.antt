use Rattle.bm_lifetime.proofs.laws.longer_timeout.Goals as goal
use Rattle.bm_lifetime.proofs.Worth.{timeout_law}

pub returns : goal.returns
returns c = timeout_law c.args.script.now c.args.timeout c.requires
