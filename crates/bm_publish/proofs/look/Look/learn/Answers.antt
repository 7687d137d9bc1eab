use Rattle.std.proofs.Common.{rules}
use Rattle.bm_publish.proofs.look.Look.learn.Goals as goal

pub returns-clause-learned : goal.returns-clause-learned
returns-clause-learned c = search rules
