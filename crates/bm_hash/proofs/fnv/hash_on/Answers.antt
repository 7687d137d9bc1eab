use Rattle.std.proofs.Common.{arith}
use Rattle.std.proofs.lemmas.Grind.{common_steps}
use Rattle.std.proofs.lemmas.List.Sums.{fold_more}
use Rattle.bm_hash.specs.Buckets.{fnv_step}
use Rattle.bm_hash.proofs.fnv.hash_on.Goals as goal

pub loop-octet-preserved : goal.loop-octet-preserved
unfolding fnv_step
loop-octet-preserved c = grind (arith, common_steps, fold_more)
