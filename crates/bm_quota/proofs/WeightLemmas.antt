-- Quotas by weights: they make up all buckets, and where all weigh the same they are as even as can be.
use Rattle.std.proofs.Common.{◌≡◌, ◌≢◌, ◌⊎◌, ℕ, ◌+◌, ◌-◌, ◌*◌, ◌/◌, ◌%◌, ◌<◌, ◌≤◌, Bool, true, false}
use Rattle.std.proofs.Common.{◌&&◌, ◌||◌, cond, eqb, ltb, List, [], ◌∷◌, length, map, sum, inl, inr, refl, ap, sym}
use Rattle.std.proofs.Common.{◌∙◌, arith}
use Rattle.std.proofs.Math.Nat.{div-add-mod, mod-lt, mul-div-mul_right, mul-le-mul_left}
use Rattle.std.proofs.lemmas.Bool.{cases_Bool, cases_lt, lt-ltb, le-ltb, ltb-true, eq-eqb, eqb-true}
use Rattle.std.proofs.lemmas.Bool.{and_from, and_parts, or_cases, or_left, or_right}
use Rattle.std.proofs.lemmas.List.Sums.{sum_by-cons, sum-map}
use Rattle.std.specs.List.{count_by, sum_by, range_with_len}
use Rattle.bm_base.specs.declared.ids.ServerId.{ServerId}
use Rattle.bm_quota.proofs.Ranks.{count-cons, count-ranks, count-same, here_among, map-same, rank}
use Rattle.bm_quota.proofs.Ranks.{there_among, Ranks}
use Rattle.bm_quota.specs.Rebalancing.{equal_quota, equal_quotas, gets_one_more, quota, quotas_of, remainder, share}
use Rattle.bm_quota.specs.Rebalancing.{shortfall, comes_before}
use Rattle.bm_table.specs.Settings.{RiseFrom}
use Rattle.bm_table.specs.Tables.{is_among, same_server}

-- THE ORDER OF SERVERS

-- the larger remainder first, and of the same the lower number
pub stands_is : (f : ServerId → ℕ) (t s : ServerId) → comes_before f t s ≡ true
    → (f s < f t) ⊎ ((f t ≡ f s) × (t.0 < s.0))
stands_is f t s h =
    elim (or_cases (ltb (f s) (f t)) (eqb (f t) (f s) && ltb t.0 s.0) h) [
      | inl more ↦ inl (ltb-true (f s) (f t) more)
      | inr same ↦
          let parts = and_parts (eqb (f t) (f s)) (ltb t.0 s.0) same
          in inr (eqb-true (f t) (f s) parts.0, ltb-true t.0 s.0 parts.1)
    ]

pub stands_from : (f : ServerId → ℕ) (t s : ServerId) → (f s < f t) ⊎ ((f t ≡ f s) × (t.0 < s.0))
    → comes_before f t s ≡ true
stands_from f t s (inl more) =
    or_left (ltb (f s) (f t)) (eqb (f t) (f s) && ltb t.0 s.0) (lt-ltb (f s) (f t) more)
stands_from f t s (inr same) =
    or_right (ltb (f s) (f t)) (eqb (f t) (f s) && ltb t.0 s.0)
    (and_from (eqb (f t) (f s)) (ltb t.0 s.0) (eq-eqb (f t) (f s) same.0) (lt-ltb t.0 s.0 same.1))

pub Ranks-stands : (f : ServerId → ℕ) → Ranks (comes_before f)
Ranks-stands f = record { apart = apart; through = through; either = either }
  where
    apart : (s : ServerId) → comes_before f s s ≡ false
    apart s =
        elim (cases_Bool (comes_before f s s)) [
          | inr not_so ↦ not_so
          | inl so ↦ elim (stands_is f s s so) [
            | inl more ↦ absurd (omega arith)
            | inr same ↦ absurd (let h = same.1 in omega arith)
          ]
        ]

    through : (r s t : ServerId) → comes_before f r s ≡ true → comes_before f s t ≡ true
        → comes_before f r t ≡ true
    through r s t a b =
        stands_from f r t (elim (stands_is f r s a) [
          | inl more ↦ elim (stands_is f s t b) [
            | inl more' ↦ inl (omega arith)
            | inr same' ↦ inl (let e = same'.0 in omega arith)
          ]
          | inr same ↦ elim (stands_is f s t b) [
            | inl more' ↦ inl (let e = same.0 in omega arith)
            | inr same' ↦ inr (same.0 ∙ same'.0, let h = same.1 in let k = same'.1 in omega arith)
          ]
        ])

    either : (s t : ServerId) → s ≢ t → comes_before f s t ≡ false → comes_before f t s ≡ true
    either s t differ none =
        elim (cases_lt (f s) (f t)) [
          | inl more ↦ stands_from f t s (inl more)
          | inr above ↦ elim (cases_lt (f t) (f s)) [
            | inl less ↦ absurd (cc (sym none ∙ stands_from f s t (inl less)))
            | inr below ↦
                let e : f t ≡ f s = omega arith
                in elim (cases_lt t.0 s.0) [
                  | inl lower ↦ stands_from f t s (inr (e, lower))
                  | inr upper ↦ elim (cases_lt s.0 t.0) [
                    | inl lower ↦ absurd (cc (sym none ∙ stands_from f s t (inr (sym e, lower))))
                    | inr upper' ↦
                        let same : s.0 ≡ t.0 = omega arith
                        in absurd (differ (λ i. record { 0 = same i }))
                  ]
                ]
          ]
        ]

-- SHARES

-- the shares and the remainders make up the buckets
parts-below : (buckets total : ℕ) (weight : ServerId → ℕ) (xs : List ServerId)
    → total * sum_by (λ s. buckets * weight s / total) xs + sum_by (λ s. buckets * weight s % total) xs
    ≡ buckets * sum_by weight xs
parts-below buckets total weight [] = omega arith
parts-below buckets total weight (x ∷ xs) =
    let old = parts-below buckets total weight xs
    in let here = div-add-mod (buckets * weight x) total
    in let shares = sum_by-cons (λ s. buckets * weight s / total) x xs
    in let rests = sum_by-cons (λ s. buckets * weight s % total) x xs
    in let weights = sum_by-cons weight x xs
    in ap (λ n. total * n + sum_by (λ s. buckets * weight s % total) (x ∷ xs)) shares
    ∙ ap (λ n. total * (buckets * weight x / total + sum_by (λ s. buckets * weight s / total) xs) + n) rests
    ∙ omega (arith, old, here)
    ∙ ap (λ n. buckets * n) (sym weights)

rests-few : (buckets total : ℕ) (weight : ServerId → ℕ) → 0 < total → (xs : List ServerId)
    → sum_by (λ s. buckets * weight s % total) xs + length xs ≤ length xs * total
rests-few buckets total weight some [] = omega arith
rests-few buckets total weight some (x ∷ xs) =
    omega (
      arith,
      rests-few buckets total weight some xs,
      sum_by-cons (λ s. buckets * weight s % total) x xs,
      few (buckets * weight x),
    )
  where
    few : (n : ℕ) → n % total < total
    few n = mod-lt n some

-- what the shares and the remainders are together
pub whole : (buckets : ℕ) (weight : ServerId → ℕ) (active : List ServerId)
    → sum_by weight active * sum_by (share buckets weight active) active
    + sum_by (remainder buckets weight active) active ≡ buckets * sum_by weight active
whole buckets weight active = parts-below buckets (sum_by weight active) weight active

pub shares-le : (buckets : ℕ) (weight : ServerId → ℕ) (active : List ServerId) → 0 < sum_by weight active
    → sum_by (share buckets weight active) active ≤ buckets
shares-le buckets weight active some =
    elim (cases_lt buckets (sum_by (share buckets weight active) active)) [
      | inr most ↦ most
      | inl over ↦ absurd (omega (
        arith,
        some,
        whole buckets weight active,
        mul-le-mul_left {m = buckets + 1} {n = sum_by (share buckets weight active) active} (sum_by weight active)
            (omega arith),
      ))
    ]

pub shortfall-lt : (buckets : ℕ) (weight : ServerId → ℕ) (active : List ServerId) → 0 < sum_by weight active
    → 0 < length active → shortfall buckets weight active < length active
shortfall-lt buckets weight active some many =
    elim (cases_lt (shortfall buckets weight active) (length active)) [
      | inl few ↦ few
      | inr over ↦ absurd (omega (
        arith,
        many,
        whole buckets weight active,
        rests-few buckets (sum_by weight active) weight some active,
        shares-le buckets weight active some,
        mul-le-mul_left {m = sum_by (share buckets weight active) active + length active} {n = buckets}
            (sum_by weight active) (let h = shares-le buckets weight active some in omega arith),
      ))
    ]

-- THE SUM

sum_by-one_more : (f : ServerId → ℕ) (p : ServerId → Bool) (xs : List ServerId)
    → sum_by (λ s. f s + cond (p s) 1 0) xs ≡ sum_by f xs + count_by p xs
sum_by-one_more f p [] = refl
sum_by-one_more f p (x ∷ xs) =
    omega (
      arith,
      sum_by-one_more f p xs,
      sum_by-cons (λ s. f s + cond (p s) 1 0) x xs,
      sum_by-cons f x xs,
      count-cons p x xs,
    )

pub sum-quotas_of : (buckets : ℕ) (weight : ServerId → ℕ) (active : List ServerId) → RiseFrom 0 active
    → 0 < length active → 0 < sum_by weight active → sum (quotas_of buckets weight active) ≡ buckets
sum-quotas_of buckets weight active rise many some =
    sum-map (quota buckets weight active) active
    ∙ sum_by-one_more (share buckets weight active) (gets_one_more buckets weight active) active
    ∙ omega (
      arith,
      count-ranks (comes_before (remainder buckets weight active))
          (Ranks-stands (remainder buckets weight active)) 0 (shortfall buckets weight active) active rise,
      shares-le buckets weight active some,
      shortfall-lt buckets weight active some many,
    )

-- WHERE ALL WEIGH THE SAME

sum_by-even : (f : ServerId → ℕ) (w : ℕ) (xs : List ServerId)
    → ((s : ServerId) → is_among xs s ≡ true → f s ≡ w) → sum_by f xs ≡ length xs * w
sum_by-even f w [] h = omega arith
sum_by-even f w (x ∷ xs) h =
    omega (
      arith,
      sum_by-cons f x xs,
      h x (here_among x xs),
      sum_by-even f w xs (λ s a. h s (there_among x s xs a)),
    )

-- as many servers of a rising list stand before each as its place says
places : {A : Type 0} (q : ℕ → A) (low : ℕ) (xs : List ServerId) → RiseFrom low xs → (n : ℕ)
    → map (λ s. q (n + count_by (λ t. ltb t.0 s.0) xs)) xs ≡ map q (range_with_len n (length xs))
places q low [] rise n = refl
places {A} q low (x ∷ xs) rise n =
    ap (λ k. q (n + k) ∷ map (λ s. q (n + count_by (λ t. ltb t.0 s.0) (x ∷ xs))) xs) none
    ∙ ap (λ k. q k ∷ map (λ s. q (n + count_by (λ t. ltb t.0 s.0) (x ∷ xs))) xs) (omega arith)
    ∙ ap (λ (ys : List A). q n ∷ ys)
    (map-same (λ s. q (n + count_by (λ t. ltb t.0 s.0) (x ∷ xs))) (λ s. q (n + 1 + count_by (λ t. ltb t.0 s.0) xs)) xs
    (λ s a. ap q (behind s a))
    ∙ places q (x.0 + 1) xs rise.1 (n + 1))
  where
    above : (low' : ℕ) (ys : List ServerId) → RiseFrom low' ys → (s : ServerId) → is_among ys s ≡ true → low' ≤ s.0
    above low' [] r s a = absurd (cc a)
    above low' (y ∷ ys) r s a =
        elim (or_cases (same_server y s) (is_among ys s) a) [
          | inl same ↦ let e : y.0 ≡ s.0 = eqb-true y.0 s.0 same in let h = r.0 in omega arith
          | inr later ↦ let h = r.0 in let k = above (y.0 + 1) ys r.1 s later in omega arith
        ]

    no_one : (m : ℕ) (ys : List ServerId) → ((t : ServerId) → is_among ys t ≡ true → m ≤ t.0)
        → count_by (λ t. ltb t.0 m) ys ≡ 0
    no_one m [] h = refl
    no_one m (y ∷ ys) h =
        count-cons (λ t. ltb t.0 m) y ys
        ∙ ap (λ b. cond b 1 0 + count_by (λ t. ltb t.0 m) ys) (le-ltb y.0 m (h y (here_among y ys)))
        ∙ omega (arith, no_one m ys (λ t a. h t (there_among y t ys a)))

    none : count_by (λ t. ltb t.0 x.0) (x ∷ xs) ≡ 0
    none =
        count-cons (λ t. ltb t.0 x.0) x xs
        ∙ ap (λ b. cond b 1 0 + count_by (λ t. ltb t.0 x.0) xs) (le-ltb x.0 x.0 (omega arith))
        ∙ omega (
          arith,
          no_one x.0 xs (λ t a. let h = above (x.0 + 1) xs rise.1 t a in omega arith),
        )

    behind : (s : ServerId) → is_among xs s ≡ true
        → n + count_by (λ t. ltb t.0 s.0) (x ∷ xs) ≡ n + 1 + count_by (λ t. ltb t.0 s.0) xs
    behind s a =
        let after : x.0 < s.0 = let h = above (x.0 + 1) xs rise.1 s a in omega arith
        in let one = count-cons (λ t. ltb t.0 s.0) x xs
        ∙ ap (λ b. cond b 1 0 + count_by (λ t. ltb t.0 s.0) xs) (lt-ltb x.0 s.0 after)
        in omega (arith, one)

-- with one weight for all the quotas are the quotient, and one more for the first servers
pub quotas-even : (buckets w : ℕ) (weight : ServerId → ℕ) (active : List ServerId) → RiseFrom 0 active → 0 < w
    → 0 < length active → ((s : ServerId) → is_among active s ≡ true → weight s ≡ w)
    → quotas_of buckets weight active ≡ equal_quotas buckets (length active)
quotas-even buckets w weight active rise some many even =
    map-same (quota buckets weight active)
    (λ s. equal_quota buckets (length active) (0 + count_by (λ t. ltb t.0 s.0) active)) active
    (λ s a. each s a)
    ∙ places (equal_quota buckets (length active)) 0 active rise 0
  where
    total : sum_by weight active ≡ length active * w
    total = sum_by-even weight w active even

    shared : (s : ServerId) → is_among active s ≡ true → share buckets weight active s ≡ buckets / length active
    shared s a =
        ap (λ n. buckets * n / sum_by weight active) (even s a)
        ∙ ap (λ n. buckets * w / n) total
        ∙ mul-div-mul_right {m = w} buckets (length active) some

    same_rest : (s t : ServerId) → is_among active s ≡ true → is_among active t ≡ true
        → remainder buckets weight active s ≡ remainder buckets weight active t
    same_rest s t a b = ap (λ n. buckets * n % sum_by weight active) (even s a ∙ sym (even t b))

    short : shortfall buckets weight active ≡ buckets % length active
    short =
        ap (λ n. buckets - n) (sum_by-even (share buckets weight active) (buckets / length active) active shared)
        ∙ omega (arith, div-add-mod buckets (length active))

    before : (f : ServerId → ℕ) (t s : ServerId) → f t ≡ f s → comes_before f t s ≡ ltb t.0 s.0
    before f t s e =
        ap (λ b. b || eqb (f t) (f s) && ltb t.0 s.0) (le-ltb (f s) (f t) (omega arith))
        ∙ ap (λ b. b && ltb t.0 s.0) (eq-eqb (f t) (f s) e)

    each : (s : ServerId) → is_among active s ≡ true
        → quota buckets weight active s
        ≡ equal_quota buckets (length active) (0 + count_by (λ t. ltb t.0 s.0) active)
    each s a =
        let ranks : rank (comes_before (remainder buckets weight active)) active s
        ≡ 0 + count_by (λ t. ltb t.0 s.0) active
        = count-same (λ t. comes_before (remainder buckets weight active) t s) (λ t. ltb t.0 s.0) active
        (λ t b. before (remainder buckets weight active) t s (same_rest t s b a)) ∙ omega arith
        in ap (λ n. n + cond (gets_one_more buckets weight active s) 1 0) (shared s a)
        ∙ ap (λ n. buckets / length active + cond (ltb n (shortfall buckets weight active)) 1 0) ranks
        ∙ ap (λ n. buckets / length active + cond (ltb (0 + count_by (λ t. ltb t.0 s.0) active) n) 1 0) short
