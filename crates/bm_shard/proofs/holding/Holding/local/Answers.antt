use Rattle.std.proofs.Common.{rules}
use Rattle.bm_shard.proofs.holding.Holding.local.Goals as goal

pub returns-clause-local : goal.returns-clause-local
returns-clause-local c = search rules

pub returns-clause-free : goal.returns-clause-free
returns-clause-free c = search rules
