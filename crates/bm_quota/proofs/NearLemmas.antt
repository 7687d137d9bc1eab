-- No quota is a whole bucket or more off what is exactly due.
use Rattle.std.proofs.Common.{◌≡◌, ℕ, ◌+◌, ◌*◌, ◌%◌, ◌<◌, ◌≤◌, true, cond, ltb, List, [], ◌∷◌}
use Rattle.std.proofs.Common.{inl, inr, ap, ◌∙◌, arith}
use Rattle.std.proofs.Math.Nat.{div-add-mod, mod-lt, mul-le-mul_left}
use Rattle.std.proofs.lemmas.Bool.{cases_Bool, cases_lt, ltb-true, ltb-false}
use Rattle.std.proofs.lemmas.List.Sums.{sum_by-cons}
use Rattle.std.specs.List.{count_by, sum_by}
use Rattle.bm_base.specs.declared.ids.ServerId.{ServerId}
use Rattle.bm_quota.proofs.Ranks.{count-cons, count-le}
use Rattle.bm_quota.proofs.WeightLemmas.{shares-le, stands_from, whole}
use Rattle.bm_quota.specs.Rebalancing.{gets_one_more, quota, remainder, share, shortfall, comes_before}

-- the remainders are below the whole, and only those above 0 count
rests-some : (buckets total : ℕ) (weight : ServerId → ℕ) → 0 < total → (xs : List ServerId)
    → sum_by (λ s. buckets * weight s % total) xs + count_by (λ s. ltb 0 (buckets * weight s % total)) xs
    ≤ count_by (λ s. ltb 0 (buckets * weight s % total)) xs * total
rests-some buckets total weight some [] = omega arith
rests-some buckets total weight some (x ∷ xs) =
    elim (cases_Bool (ltb 0 (buckets * weight x % total))) [
      | inl t ↦
          let more : count_by (λ s. ltb 0 (buckets * weight s % total)) (x ∷ xs)
          ≡ 1 + count_by (λ s. ltb 0 (buckets * weight s % total)) xs =
          count-cons (λ s. ltb 0 (buckets * weight s % total)) x xs
          ∙ ap (λ b. cond b 1 0 + count_by (λ s. ltb 0 (buckets * weight s % total)) xs) t
          in omega (
            arith,
            rests-some buckets total weight some xs,
            sum_by-cons (λ s. buckets * weight s % total) x xs,
            more,
            ap (λ n. n * total) more,
            mod-lt (buckets * weight x) some,
          )
      | inr f ↦
          let same : count_by (λ s. ltb 0 (buckets * weight s % total)) (x ∷ xs)
          ≡ 0 + count_by (λ s. ltb 0 (buckets * weight s % total)) xs =
          count-cons (λ s. ltb 0 (buckets * weight s % total)) x xs
          ∙ ap (λ b. cond b 1 0 + count_by (λ s. ltb 0 (buckets * weight s % total)) xs) f
          in omega (
            arith,
            rests-some buckets total weight some xs,
            sum_by-cons (λ s. buckets * weight s % total) x xs,
            same,
            ap (λ n. n * total) same,
            ltb-false 0 (buckets * weight x % total) f,
          )
    ]

-- who gets one more has a remainder
rest-of : (buckets : ℕ) (weight : ServerId → ℕ) (active : List ServerId) → 0 < sum_by weight active → (s : ServerId)
    → gets_one_more buckets weight active s ≡ true → 0 < remainder buckets weight active s
rest-of buckets weight active some s gets =
    elim (cases_lt 0 (remainder buckets weight active s)) [
      | inl above ↦ above
      | inr none ↦ absurd (omega (
        arith,
        rests-some buckets (sum_by weight active) weight some active,
        count-le (λ t. ltb 0 (remainder buckets weight active t))
            (λ t. comes_before (remainder buckets weight active) t s) active
            (λ t h. stands_from (remainder buckets weight active) t s
            (inl (let k = ltb-true 0 (remainder buckets weight active t) h in omega arith))),
        ltb-true _ _ gets,
        whole buckets weight active,
        shares-le buckets weight active some,
        some,
        mul-le-mul_left {m = count_by (λ t. ltb 0 (remainder buckets weight active t)) active + 1}
            {n = shortfall buckets weight active} (sum_by weight active)
            (few none),
        product,
      ))
    ]
  where
    few : remainder buckets weight active s ≤ 0
        → count_by (λ t. ltb 0 (remainder buckets weight active t)) active + 1 ≤ shortfall buckets weight active
    few none =
        omega (
          arith,
          count-le (λ t. ltb 0 (remainder buckets weight active t))
              (λ t. comes_before (remainder buckets weight active) t s) active
              (λ t h. stands_from (remainder buckets weight active) t s
              (inl (let k = ltb-true 0 (remainder buckets weight active t) h in omega arith))),
          ltb-true _ _ gets,
        )

    product : sum_by weight active * shortfall buckets weight active
        + sum_by weight active * sum_by (share buckets weight active) active ≡ sum_by weight active * buckets
    product =
        let e : shortfall buckets weight active + sum_by (share buckets weight active) active ≡ buckets =
        let h = shares-le buckets weight active some in omega arith
        in omega arith ∙ ap (λ n. sum_by weight active * n) e

-- a quota times the weights together is less than one weight off what is due
pub quota-near : (buckets : ℕ) (weight : ServerId → ℕ) (active : List ServerId) → 0 < sum_by weight active
    → (s : ServerId)
    → (buckets * weight s < sum_by weight active * quota buckets weight active s + sum_by weight active)
    × (sum_by weight active * quota buckets weight active s < buckets * weight s + sum_by weight active)
quota-near buckets weight active some s =
    elim (cases_Bool (gets_one_more buckets weight active s)) [
      | inl t ↦
          let is : quota buckets weight active s ≡ share buckets weight active s + 1 =
          ap (λ b. share buckets weight active s + cond b 1 0) t
          in let times = ap (λ n. sum_by weight active * n) is
          in let above = rest-of buckets weight active some s t
          in (
            omega (
              arith,
              times,
              div-add-mod (buckets * weight s) (sum_by weight active),
              mod-lt (buckets * weight s) some,
            ),
            omega (arith, times, div-add-mod (buckets * weight s) (sum_by weight active), above),
          )
      | inr f ↦
          let is : quota buckets weight active s ≡ share buckets weight active s + 0 =
          ap (λ b. share buckets weight active s + cond b 1 0) f
          in let times = ap (λ n. sum_by weight active * n) is
          in (
            omega (
              arith,
              times,
              div-add-mod (buckets * weight s) (sum_by weight active),
              mod-lt (buckets * weight s) some,
            ),
            omega (arith, times, some, div-add-mod (buckets * weight s) (sum_by weight active)),
          )
    ]
