use Rattle.std.proofs.Common.{rules}
use Rattle.bm_shard.proofs.booked.ShardBookBooked.apply.Goals as goal

pub returns-clause-reply : goal.returns-clause-reply
returns-clause-reply c = search rules
