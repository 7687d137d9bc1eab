use Rattle.std.proofs.Common.{rules}
use Rattle.bm_hash.proofs.fnv.bucket_of.Goals as goal

pub returns : goal.returns
returns c = search rules
