use Rattle.std.proofs.Common.{List, ◌∷◌, ◌++◌, get_or, sym, ◌∙◌, subst}
use Rattle.std.specs.List.Sorted.{IsPermutation}
use Rattle.bm_quota.specs.declared.share.Claim.{Claim}
use Rattle.bm_quota.proofs.Claims.{met_before}
use Rattle.bm_quota.proofs.share.claim_at.Goals as goal

pub returns : goal.returns
returns c = record {
  front = c.select_nth_unstable-claim.result.0.now;
  back = c.select_nth_unstable-claim.result.2.now;
  all = subst (λ (xs : List Claim). IsPermutation xs (c.select_nth_unstable-claim.result.0.now ++ c.select_nth_unstable-claim.result.1.now ∷ c.select_nth_unstable-claim.result.2.now)) (c.as_mut_slice.ensures.value ∙ c.in_ok-claims.ensures) c.select_nth_unstable-claim.ensures.permutation;
  count = c.select_nth_unstable-claim.ensures.front_len;
  split = (
    λ k d h. sym (met_before c.select_nth_unstable-claim.result.1.now (get_or c.select_nth_unstable-claim.result.0.now k d)) ∙ c.select_nth_unstable-claim.ensures.partitioned.0 k d h,
    λ k d h. sym (met_before (get_or c.select_nth_unstable-claim.result.2.now k d) c.select_nth_unstable-claim.result.1.now) ∙ c.select_nth_unstable-claim.ensures.partitioned.1 k d h,
  );
}
