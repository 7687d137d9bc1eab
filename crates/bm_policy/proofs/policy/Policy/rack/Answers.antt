use Rattle.std.proofs.Common.{rules}
use Rattle.bm_policy.proofs.policy.Policy.rack.Goals as goal

pub returns-clause-rack : goal.returns-clause-rack
returns-clause-rack c = search rules
