use Rattle.std.proofs.Common.{◌≡◌, ◌+◌, ◌<◌, cond, Vec, Global, ℕ, length, map, sum, ap, sym, ◌∙◌, subst, arith}
use Rattle.std.proofs.lemmas.Result.{IfOk-weaker}
use Rattle.std.specs.List.{zip}
use Rattle.bm_base.specs.declared.ids.ServerId.{ServerId}
use Rattle.bm_quota.proofs.Claims.{few_left, parts_within, quotas_fit, quotas_made, quotas_total, AreParts}
use Rattle.bm_quota.specs.Inside.Claims.{is_met_before, part_of, StandsAt}
use Rattle.bm_quota.specs.Rebalancing.{quota_of, quotas_of}
use Rattle.bm_quota.proofs.share.quotas.Goals as goal

pub left_over-rest-requires : goal.left_over-rest-requires
left_over-rest-requires c =
    let made : AreParts c.args.buckets c.args.active.now c.args.weights.now c.as_slice-parts.result.now = record {
      some = c.requires.some;
      rising = c.requires.rising;
      count = c.requires.count;
      range = c.requires.range;
      are = c.as_slice-parts.ensures.value ∙ c.in_ok-made.ensures
          ∙ ap (λ n. map (λ (p : ServerId × ℕ). part_of c.args.buckets n p.0 p.1)
          (zip c.args.active.now c.args.weights.now)) c.total_weight-total.ensures;
    } in parts_within c.args.buckets c.args.active.now c.args.weights.now c.as_slice-parts.result.now made

pub claim_at-requires : goal.claim_at-requires
claim_at-requires c =
    let made : AreParts c.args.buckets c.args.active.now c.args.weights.now c.as_slice-parts.result.now = record {
      some = c.requires.some;
      rising = c.requires.rising;
      count = c.requires.count;
      range = c.requires.range;
      are = c.as_slice-parts.ensures.value ∙ c.in_ok-made.ensures
          ∙ ap (λ n. map (λ (p : ServerId × ℕ). part_of c.args.buckets n p.0 p.1)
          (zip c.args.active.now c.args.weights.now)) c.total_weight-total.ensures;
    } in subst (λ n. n < length c.as_slice-parts.result.now) (sym c.left_over-rest.ensures) (few_left c.args.buckets c.args.active.now c.args.weights.now c.as_slice-parts.result.now made)

pub with_one_more-requires : goal.with_one_more-requires
with_one_more-requires c =
    let made : AreParts c.args.buckets c.args.active.now c.args.weights.now c.as_slice-parts.result.now = record {
      some = c.requires.some;
      rising = c.requires.rising;
      count = c.requires.count;
      range = c.requires.range;
      are = c.as_slice-parts.ensures.value ∙ c.in_ok-made.ensures
          ∙ ap (λ n. map (λ (p : ServerId × ℕ). part_of c.args.buckets n p.0 p.1)
          (zip c.args.active.now c.args.weights.now)) c.total_weight-total.ensures;
    } in let stands = subst (λ n. StandsAt (map (λ p. p.claim) c.as_slice-parts.result.now) n c.in_ok-next.next)
    c.left_over-rest.ensures c.in_ok-next.ensures in λ k d h. let most = quotas_fit c.args.buckets c.args.active.now c.args.weights.now c.as_slice-parts.result.now made c.in_ok-next.next stands k d h in let fits = c.ranges.buckets.fits in omega arith

pub returns-clause-parts : goal.returns-clause-parts
returns-clause-parts c =
    let made : AreParts c.args.buckets c.args.active.now c.args.weights.now c.as_slice-parts.result.now = record {
      some = c.requires.some;
      rising = c.requires.rising;
      count = c.requires.count;
      range = c.requires.range;
      are = c.as_slice-parts.ensures.value ∙ c.in_ok-made.ensures
          ∙ ap (λ n. map (λ (p : ServerId × ℕ). part_of c.args.buckets n p.0 p.1)
          (zip c.args.active.now c.args.weights.now)) c.total_weight-total.ensures;
    } in let stands = subst (λ n. StandsAt (map (λ p. p.claim) c.as_slice-parts.result.now) n c.in_ok-next.next)
    c.left_over-rest.ensures c.in_ok-next.ensures in IfOk-weaker c.with_one_more.result
    (λ (q : Vec ℕ Global). q.items
    ≡ map (λ p. p.share + cond (is_met_before p.claim c.in_ok-next.next) 1 0) c.as_slice-parts.result.now)
    (λ (q : Vec ℕ Global). q.items
    ≡ quotas_of c.args.buckets (quota_of c.args.active.now c.args.weights.now) c.args.active.now)
    (λ q h. h ∙ quotas_made c.args.buckets c.args.active.now c.args.weights.now c.as_slice-parts.result.now made c.in_ok-next.next stands)
    c.with_one_more.ensures

pub returns-clause-total : goal.returns-clause-total
returns-clause-total c =
    let made : AreParts c.args.buckets c.args.active.now c.args.weights.now c.as_slice-parts.result.now = record {
      some = c.requires.some;
      rising = c.requires.rising;
      count = c.requires.count;
      range = c.requires.range;
      are = c.as_slice-parts.ensures.value ∙ c.in_ok-made.ensures
          ∙ ap (λ n. map (λ (p : ServerId × ℕ). part_of c.args.buckets n p.0 p.1)
          (zip c.args.active.now c.args.weights.now)) c.total_weight-total.ensures;
    } in IfOk-weaker c.with_one_more.result
    (λ (q : Vec ℕ Global). q.items
    ≡ quotas_of c.args.buckets (quota_of c.args.active.now c.args.weights.now) c.args.active.now)
    (λ (q : Vec ℕ Global). sum q.items ≡ c.args.buckets)
    (λ q h. ap sum h ∙ quotas_total c.args.buckets c.args.active.now c.args.weights.now c.as_slice-parts.result.now made)
    (returns-clause-parts c)
