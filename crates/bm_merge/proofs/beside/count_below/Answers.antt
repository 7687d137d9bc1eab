use Rattle.std.proofs.Common.{arith, rules}
use Rattle.std.specs.Prelude.{nat_lt}
use Rattle.std.proofs.lemmas.Bool.{ltb-false, ltb-true}
use Rattle.std.proofs.lemmas.List.Sorted.{IsPartitionPoint-from_clause, IsPartitionedBy-ltb}
use Rattle.bm_merge.proofs.Halving.{all_dropped, all_taken, rising_non_decreasing}
use Rattle.bm_merge.proofs.beside.count_below.Goals as goal

pub returns-clause-cut : goal.returns-clause-cut
returns-clause-cut c =
    let log = c.args.log.now in
    let count = c.partition_point.result in
    let point =
    IsPartitionPoint-from_clause (λ e. nat_lt e.clock.0 c.args.clock) log count c.partition_point.ensures.partitioned
    (IsPartitionedBy-ltb (λ e. e.clock.0) log c.args.clock (rising_non_decreasing log c.requires))
    (λ a r q k. search rules) in (
      all_taken _ log count c.partition_point.ensures.bound (λ k d lt. ltb-true _ _ (point.0 k d (omega arith) lt)),
      all_dropped _ log count (λ k d le lt. ltb-false _ _ (point.1 k d le lt)),
    )
