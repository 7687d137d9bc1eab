use Rattle.std.proofs.Common.{rules}
use Rattle.bm_shard.proofs.state.ShardState.apply.Goals as goal

pub returns-clause-event : goal.returns-clause-event
returns-clause-event c = search rules

pub returns-clause-reply : goal.returns-clause-reply
returns-clause-reply c = search rules

pub returns-clause-effect : goal.returns-clause-effect
returns-clause-effect c = search rules
