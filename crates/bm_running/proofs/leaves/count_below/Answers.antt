use Rattle.std.proofs.Common.{arith, rules}
use Rattle.std.specs.Prelude.{nat_lt}
use Rattle.std.proofs.lemmas.List.Sorted.{IsPartitionPoint-from_clause}
use Rattle.bm_running.specs.declared.leaves.Leave.{Leave}
use Rattle.bm_running.proofs.Leaving.{bucket_parted, by_bucket}
use Rattle.bm_running.proofs.leaves.count_below.Goals as goal

pub returns-clause-below : goal.returns-clause-below
returns-clause-below c rises =
    let point =
    IsPartitionPoint-from_clause (λ (l : Leave). nat_lt l.bucket c.args.bucket) _ _
    c.partition_point.ensures.partitioned (by_bucket c.args.leaves.now c.args.bucket rises)
    (λ a r q k. search rules)
    in bucket_parted 0 0 c.args.leaves.now c.args.bucket c.partition_point.result rises
    (λ i d h. point.0 i d (let b = c.partition_point.ensures.bound in omega (arith, h, b)) h)
    (λ i d h b. point.1 i d h b)
