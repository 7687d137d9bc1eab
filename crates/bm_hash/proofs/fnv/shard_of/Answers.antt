use Rattle.std.proofs.Common.{rules}
use Rattle.bm_hash.proofs.fnv.shard_of.Goals as goal

pub returns : goal.returns
returns c = search rules
