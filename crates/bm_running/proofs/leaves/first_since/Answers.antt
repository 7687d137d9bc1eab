use Rattle.std.proofs.Common.{arith, rules}
use Rattle.std.specs.Prelude.{nat_lt}
use Rattle.std.proofs.lemmas.List.Sorted.{IsPartitionPoint-from_clause}
use Rattle.bm_running.specs.declared.leaves.Leave.{Leave}
use Rattle.bm_running.proofs.Leaving.{at_since, by_moment, past_since}
use Rattle.bm_running.proofs.leaves.first_since.Goals as goal

pub returns-then-place-leaves : goal.returns-then-place-leaves
returns-then-place-leaves c rises =
    let point =
    IsPartitionPoint-from_clause (λ (l : Leave). nat_lt l.moment c.args.since) _ _
    c.partition_point-place.ensures.partitioned (by_moment c.args.leaves.now c.args.since rises)
    (λ a r q k. search rules)
    in at_since c.args.leaves.now c.args.since c.partition_point-place.result _ rises (search rules)
    (λ i d h. point.0 i d (let b = c.partition_point-place.ensures.bound in omega (arith, h, b)) h)
    (λ i d h b. point.1 i d h b)

pub returns-else-place-leaves : goal.returns-else-place-leaves
returns-else-place-leaves c rises =
    let point =
    IsPartitionPoint-from_clause (λ (l : Leave). nat_lt l.moment c.args.since) _ _
    c.partition_point-place.ensures.partitioned (by_moment c.args.leaves.now c.args.since rises)
    (λ a r q k. search rules)
    in past_since c.args.leaves.now c.args.since c.partition_point-place.result (search rules)
    (λ i d h. point.0 i d (let b = c.partition_point-place.ensures.bound in omega (arith, h, b)) h)
