use Rattle.std.proofs.Common.{◌≡◌, List, arith, length, rules, subst, sym}
use Rattle.std.specs.Prelude.{nat_lt}
use Rattle.std.proofs.lemmas.List.Sorted.{IsPartitionPoint-from_clause}
use Rattle.bm_state.specs.declared.moves.BucketMove.{BucketMove}
use Rattle.bm_state.specs.Inside.Moves.{IsSplit}
use Rattle.bm_state.specs.Moves.{bucket_moves}
use Rattle.bm_state.proofs.Moving.{parted, ranked, split_all}
use Rattle.bm_state.proofs.moves.rank.Goals as goal

pub returns : goal.returns
returns c =
    let rank : (low : List BucketMove) → IsSplit c.args.version c.args.moves.now low
    → c.partition_point.result ≡ length low =
    λ low split.
    let point =
    IsPartitionPoint-from_clause (λ (m : BucketMove). nat_lt m.change c.args.version) _ _
    c.partition_point.ensures.partitioned (parted c.args.version c.args.moves.now low split) (λ a r q k. search rules)
    in ranked c.args.version c.args.moves.now low c.partition_point.result split c.partition_point.ensures.bound
    (λ i d h. point.0 i d (omega arith) h) (λ i d h b. point.1 i d h b)
    in record {
      few = c.partition_point.ensures.bound;
      rank = rank;
      planned =
          λ plan b same. rank (bucket_moves plan b c.args.version)
          (subst (λ xs. IsSplit c.args.version xs (bucket_moves plan b c.args.version)) (sym same)
          (split_all plan b c.args.version));
    }
