use Rattle.std.proofs.Common.{rules}
use Rattle.std.proofs.lemmas.List.Sorted.{IsNonDecreasingBy-from_sort_by_key, answers_always}
use Rattle.bm_merge.proofs.Sorting.{sorted_merged}
use Rattle.bm_merge.proofs.logs.in_order.Goals as goal

pub returns : goal.returns
returns c =
    sorted_merged _ _
    (IsNonDecreasingBy-from_sort_by_key (λ e. e.clock.0) _ c.in_ok-sort_by_key.ensures.sorted
    (λ a r q k. search rules))
    (c.sort_by_key.ensures.stable (λ e. e.clock.0) (answers_always _ _ _ (λ f a r g h. search rules)))
