-- The first claim that isn't met: the claims before it are as many as the buckets that are left.
use Rattle.std.proofs.Common.{◌≡◌, ◌≢◌, ℕ, zero, suc, get_or, ◌+◌, ◌-◌, ◌<◌, ◌≤◌, Bool, true, false, ◌&&◌, ◌||◌, not, cond, eqb, ltb}
use Rattle.std.proofs.Common.{List, [], ◌∷◌, ◌++◌, length, map, sum, inl, inr, refl, ap, sym, subst, ◌∙◌, ◌*◌, ◌/◌, ◌%◌, arith, is_lt}
use Rattle.std.proofs.lemmas.Bool.{and_from, and_parts, cases_Bool, cases_lt, cases_eq, lt-ltb, le-ltb, eq-eqb, eqb-true}
use Rattle.std.proofs.lemmas.Bool.{ne_eqb}
use Rattle.std.proofs.lemmas.List.Elements.{All-cons, All-head, All-nil, All-tail}
use Rattle.std.proofs.lemmas.List.Sorted.{sum_by-IsPermutation}
use Rattle.std.proofs.lemmas.List.{get_or-map}
use Rattle.std.proofs.lemmas.List.Sums.{count_by-le-length, get_or-le-sum_by, sum_by-append, sum_by-cons}
use Rattle.std.proofs.Math.Nat.{mod-lt}
use Rattle.std.specs.List.{All, count_by, sum_by, zip}
use Rattle.std.specs.Ordering.{nat_cmp, ordering_then}
use Rattle.bm_base.specs.declared.ids.ServerId.{ServerId}
use Rattle.bm_quota.proofs.QuotaLemmas.{first_not_among, total-quota_of}
use Rattle.bm_quota.proofs.Ranks.{count-cons, count-same, here_among, map-same, sum_by-same, rank, rank-le, rank-lt, there_among, Ranks}
use Rattle.bm_quota.proofs.RoomLemmas.{cases_server, same_server-refl, total}
use Rattle.bm_quota.proofs.WeightLemmas.{shares-le, shortfall-lt, sum-quotas_of, Ranks-stands}
use Rattle.bm_quota.specs.declared.share.Claim.{Claim}
use Rattle.bm_quota.specs.declared.share.Part.{Part}
use Rattle.bm_quota.specs.Inside.Claims.{is_met_before, part_of, StandsAt}
use Rattle.bm_quota.specs.Rebalancing.{quota, quota_of, quotas_of, remainder, share, shortfall, comes_before}
use Rattle.bm_table.specs.Settings.{IsWithin, RiseFrom}
use Rattle.bm_table.specs.Tables.{is_among}

pub met_before : (a b : Claim)
    → is_lt (ordering_then (nat_cmp a.lacks b.lacks) (nat_cmp a.server.0 b.server.0)) ≡ is_met_before a b
met_before a b =
    elim (cases_lt a.lacks b.lacks) [
      | inl less ↦ rw (lt-ltb a.lacks b.lacks less) refl
      | inr above ↦ elim (cases_eq a.lacks b.lacks) [
        | inl same ↦ rw (le-ltb a.lacks b.lacks above, eq-eqb a.lacks b.lacks same) (second a.server.0 b.server.0)
        | inr other ↦ rw (le-ltb a.lacks b.lacks above, ne_eqb a.lacks b.lacks other) refl
      ]
    ]
  where
    second : (m n : ℕ) → is_lt (nat_cmp m n) ≡ ltb m n
    second m n =
        elim (cases_lt m n) [
          | inl less ↦ rw (lt-ltb m n less) refl
          | inr above ↦ elim (cases_eq m n) [
            | inl same ↦ rw (le-ltb m n above, eq-eqb m n same) refl
            | inr other ↦ rw (le-ltb m n above, ne_eqb m n other) refl
          ]
        ]

-- COUNTS

count-map : {X : Type 0} (p : X → Bool) (f : ServerId → X) (xs : List ServerId)
    → count_by p (map f xs) ≡ count_by (λ s. p (f s)) xs
count-map p f [] = refl
count-map p f (x ∷ xs) =
    sum_by-cons (λ t. cond (p t) 1 0) (f x) (map f xs) ∙ ap (λ n. cond (p (f x)) 1 0 + n) (count-map p f xs)
    ∙ sym (sum_by-cons (λ s. cond (p (f s)) 1 0) x xs)

pub sum_by-map : {X : Type 0} (g : X → ℕ) (f : ServerId → X) (xs : List ServerId)
    → sum_by g (map f xs) ≡ sum_by (λ s. g (f s)) xs
sum_by-map g f [] = refl
sum_by-map g f (x ∷ xs) =
    sum_by-cons g (f x) (map f xs) ∙ ap (λ n. g (f x) + n) (sum_by-map g f xs)
    ∙ sym (sum_by-cons (λ s. g (f s)) x xs)

count-all : (p : Claim → Bool) (cs : List Claim) → All (λ c. p c ≡ true) cs → count_by p cs ≡ length cs
count-all p [] h = refl
count-all p (c ∷ cs) h =
    sum_by-cons (λ t. cond (p t) 1 0) c cs
    ∙ ap (λ b. cond b 1 0 + count_by p cs) (All-head (λ t. p t ≡ true) c cs h)
    ∙ omega (arith, count-all p cs (All-tail (λ t. p t ≡ true) c cs h))

count-none : (p : Claim → Bool) (cs : List Claim) → All (λ c. p c ≡ false) cs → count_by p cs ≡ 0
count-none p [] h = refl
count-none p (c ∷ cs) h =
    sum_by-cons (λ t. cond (p t) 1 0) c cs
    ∙ ap (λ b. cond b 1 0 + count_by p cs) (All-head (λ t. p t ≡ false) c cs h)
    ∙ omega (arith, count-none p cs (All-tail (λ t. p t ≡ false) c cs h))

count-around : (p : Claim → Bool) (b : Bool) (front back : List Claim) (c : Claim) → p c ≡ b
    → count_by p (front ++ c ∷ back) ≡ count_by p front + (cond b 1 0 + count_by p back)
count-around p b front back c e =
    sum_by-append (λ t. cond (p t) 1 0) front (c ∷ back)
    ∙ ap (λ n. count_by p front + n) (sum_by-cons (λ t. cond (p t) 1 0) c back
    ∙ ap (λ d. cond d 1 0 + count_by p back) e)

found : (p : ServerId → Bool) (xs : List ServerId) → 0 < count_by p xs
    → (s : ServerId) × (is_among xs s ≡ true) × (p s ≡ true)
found p [] h = absurd (omega arith)
found p (x ∷ xs) h =
    elim (cases_Bool (p x)) [
      | inl t ↦ (x, here_among x xs, t)
      | inr f ↦
          let step = count-cons p x xs ∙ ap (λ b. cond b 1 0 + count_by p xs) f
          in let rest = found p xs (omega (arith, h, step))
          in (rest.0, there_among x rest.0 xs rest.1, rest.2)
    ]

-- WHO STANDS BEHIND SO MANY

swapped : (before : ServerId → ServerId → Bool) → Ranks before → (x t : ServerId) → x ≢ t
    → not (before x t) ≡ before t x
swapped before o x t differ =
    elim (cases_Bool (before x t)) [
      | inr f ↦ ap not f ∙ sym (o.either x t differ f)
      | inl b ↦ elim (cases_Bool (before t x)) [
        | inr f ↦ ap not b ∙ sym f
        | inl c ↦ absurd (cc (sym (o.apart x) ∙ o.through x t x b c))
      ]
    ]

not_behind : (before : ServerId → ServerId → Bool) → Ranks before → (low : ℕ) (xs : List ServerId)
    → RiseFrom low xs → (x : ServerId) → is_among xs x ≡ true
    → count_by (λ t. not (before x t)) xs ≡ rank before xs x + 1
not_behind before o low [] rise x a = absurd (cc a)
not_behind before o low (y ∷ ys) rise x a =
    elim (cases_server y x) [
      | inl same ↦
          let others : count_by (λ t. not (before x t)) ys ≡ rank before ys x =
          count-same (λ t. not (before x t)) (λ t. before t x) ys (λ t b. swapped before o x t
          (λ e. let none : is_among ys t ≡ false = first_not_among low y ys t rise (same.1 ∙ e) in absurd (cc (sym none ∙ b))))
          in let mine : before y x ≡ false = ap (λ s. before s x) same.1 ∙ o.apart x
          in let yours : not (before x y) ≡ true = ap not (ap (before x) same.1 ∙ o.apart x)
          in let left' : count_by (λ t. not (before x t)) (y ∷ ys) ≡ 1 + count_by (λ t. not (before x t)) ys =
          count-cons (λ t. not (before x t)) y ys
          ∙ ap (λ b. cond b 1 0 + count_by (λ t. not (before x t)) ys) yours
          in let right' : rank before (y ∷ ys) x ≡ 0 + rank before ys x =
          count-cons (λ t. before t x) y ys ∙ ap (λ b. cond b 1 0 + rank before ys x) mine
          in omega (arith, others, left', right')
      | inr other ↦
          let later : is_among ys x ≡ true = rw other.0 at a
          in let old = not_behind before o (y.0 + 1) ys rise.1 x later
          in let left' : count_by (λ t. not (before x t)) (y ∷ ys)
          ≡ cond (before y x) 1 0 + count_by (λ t. not (before x t)) ys =
          count-cons (λ t. not (before x t)) y ys
          ∙ ap (λ b. cond b 1 0 + count_by (λ t. not (before x t)) ys) (swapped before o x y (λ e. other.1 (sym e)))
          in let right' : rank before (y ∷ ys) x ≡ cond (before y x) 1 0 + rank before ys x =
          count-cons (λ t. before t x) y ys
          in omega (arith, old, left', right')
    ]

is_claim : Claim → Claim → Bool
is_claim a b = eqb a.lacks b.lacks && eqb a.server.0 b.server.0

is_claim-same : (a b : Claim) → is_claim a b ≡ true → a ≡ b
unfolding is_claim
is_claim-same a b h =
    let parts = and_parts (eqb a.lacks b.lacks) (eqb a.server.0 b.server.0) h
    in let lacks = eqb-true a.lacks b.lacks parts.0
    in let number = eqb-true a.server.0 b.server.0 parts.1
    in λ i. record { lacks = lacks i; server = record { 0 = number i } }

is_claim-refl : (a : Claim) → is_claim a a ≡ true
unfolding is_claim
is_claim-refl a = and_from (eqb a.lacks a.lacks) (eqb a.server.0 a.server.0) (eq-eqb a.lacks a.lacks refl)
    (eq-eqb a.server.0 a.server.0 refl)

pub rank-at : (f : ServerId → Claim) (before : ServerId → ServerId → Bool) → Ranks before
    → ((s t : ServerId) → is_met_before (f s) (f t) ≡ before s t) → (low : ℕ) (active : List ServerId)
    → RiseFrom low active → (place : ℕ) (next : Claim) → StandsAt (map f active) place next
    → (x : ServerId) × (is_among active x ≡ true) × (f x ≡ next) × (rank before active x ≡ place)
rank-at f before o agree low active rise place next at_ = (x.0, x.1, is, omega (arith, upper, lower))
  where
    moved : (p : Claim → Bool) → count_by p (at_.front ++ next ∷ at_.back) ≡ count_by (λ s. p (f s)) active
    moved p =
        sum_by-IsPermutation (λ t. cond (p t) 1 0) (map f active) (at_.front ++ next ∷ at_.back) at_.all
        ∙ count-map p f active

    x : (s : ServerId) × (is_among active s ≡ true) × (is_claim (f s) next ≡ true)
    x =
        found (λ s. is_claim (f s) next) active
        (omega (
          arith,
          moved (λ c. is_claim c next),
          count-around (λ c. is_claim c next) true at_.front at_.back next (is_claim-refl next),
        ))

    is : f x.0 ≡ next
    is = is_claim-same (f x.0) next x.2

    met : (s : ServerId) → is_met_before (f s) next ≡ before s x.0
    met s = ap (is_met_before (f s)) (sym is) ∙ agree s x.0

    meets : (s : ServerId) → is_met_before next (f s) ≡ before x.0 s
    meets s = ap (λ c. is_met_before c (f s)) (sym is) ∙ agree x.0 s

    alone : is_met_before next next ≡ false
    alone = ap (λ c. is_met_before c next) (sym is) ∙ met x.0 ∙ o.apart x.0

    upper : rank before active x.0 ≤ place
    upper =
        omega (
          arith,
          count-same (λ s. is_met_before (f s) next) (λ s. before s x.0) active (λ s a. met s),
          moved (λ c. is_met_before c next),
          count-around (λ c. is_met_before c next) false at_.front at_.back next alone,
          count-none (λ c. is_met_before c next) at_.back at_.split.1,
          count_by-le-length (λ c. is_met_before c next) at_.front,
          at_.count,
        )

    lower : place ≤ rank before active x.0
    lower =
        omega (
          arith,
          count-same (λ s. not (is_met_before next (f s))) (λ s. not (before x.0 s)) active (λ s a. ap not (meets s)),
          not_behind before o low active rise x.0 x.1,
          moved (λ c. not (is_met_before next c)),
          count-around (λ c. not (is_met_before next c)) true at_.front at_.back next (ap not alone),
          count-all (λ c. not (is_met_before next c)) at_.front (λ k d h. ap not (at_.split.0 k d h)),
          at_.count,
        )

-- a server's claim is met before that one exactly where fewer stand before it
pub met-ranks : (f : ServerId → Claim) (before : ServerId → ServerId → Bool) → Ranks before
    → ((s t : ServerId) → is_met_before (f s) (f t) ≡ before s t) → (low : ℕ) (active : List ServerId)
    → RiseFrom low active → (place : ℕ) (next : Claim) → StandsAt (map f active) place next
    → (s : ServerId) → is_among active s ≡ true → is_met_before (f s) next ≡ ltb (rank before active s) place
met-ranks f before o agree low active rise place next at_ s a =
    ap (is_met_before (f s)) (sym x.2) ∙ agree s x.0
    ∙ by_rank ∙ ap (ltb (rank before active s)) x.3
  where
    x : (x : ServerId) × (is_among active x ≡ true) × (f x ≡ next) × (rank before active x ≡ place)
    x = rank-at f before o agree low active rise place next at_

    by_rank : before s x.0 ≡ ltb (rank before active s) (rank before active x.0)
    by_rank =
        elim (cases_Bool (before s x.0)) [
          | inl t ↦ t ∙ sym (lt-ltb _ _ (rank-lt before o active s x.0 a t))
          | inr f' ↦ elim (cases_server s x.0) [
            | inl same ↦ f' ∙ sym (le-ltb _ _ (let e = ap (rank before active) same.1 in omega arith))
            | inr other ↦ f' ∙ sym (le-ltb _ _ (rank-le before o active x.0 s (o.either s x.0 other.1 f')))
          ]
        ]

-- the numbers of a rising list
pub rise-at : (low : ℕ) (xs : List ServerId) (i : ℕ) (d : ServerId) → RiseFrom low xs → i < length xs
    → low + i ≤ (get_or xs i d).0
rise-at low [] i d rise h = absurd (omega arith)
rise-at low (x ∷ xs) zero d rise h = omega (arith, rise.0)
rise-at low (x ∷ xs) (suc i) d rise h = omega (arith, rise.0, rise-at (x.0 + 1) xs i d rise.1 (omega arith))

-- THE QUOTAS

-- what is paired with each server is its weight
zip-weights : {X : Type 0} (f : ServerId → ℕ → X) (low : ℕ) (active : List ServerId) (weights : List ℕ)
    → RiseFrom low active → length weights ≡ length active
    → map (λ (p : ServerId × ℕ). f p.0 p.1) (zip active weights) ≡ map (λ s. f s (quota_of active weights s)) active
zip-weights f low [] [] rise h = refl
zip-weights f low [] (w ∷ weights) rise h = refl
zip-weights f low (t ∷ active) [] rise h = absurd (omega arith)
zip-weights {X} f low (t ∷ active) (w ∷ weights) rise h =
    let mine : quota_of (t ∷ active) (w ∷ weights) t ≡ w = let e = same_server-refl t in rw e refl
    in ap (λ n. f t n ∷ map (λ (p : ServerId × ℕ). f p.0 p.1) (zip active weights)) (sym mine)
    ∙ ap (λ (xs : List X). f t (quota_of (t ∷ active) (w ∷ weights) t) ∷ xs)
    (zip-weights f (t.0 + 1) active weights rise.1 (omega arith)
    ∙ map-same (λ s. f s (quota_of active weights s)) (λ s. f s (quota_of (t ∷ active) (w ∷ weights) s)) active
    (λ s a. ap (f s) (sym (other s a))))
  where
    other : (s : ServerId) → is_among active s ≡ true → quota_of (t ∷ active) (w ∷ weights) s ≡ quota_of active weights s
    other s a =
        elim (cases_server t s) [
          | inl same ↦
              let none : is_among active s ≡ false = first_not_among low t active s rise same.1
              in absurd (cc (sym none ∙ a))
          | inr apart ↦ rw apart.0 refl
        ]

sum_by-total : (f : ServerId → ℕ) (xs : List ServerId) → sum_by f xs ≡ total f xs
sum_by-total f [] = refl
sum_by-total f (x ∷ xs) = sum_by-cons f x xs ∙ ap (λ n. f x + n) (sum_by-total f xs)

-- the weights together, also as they are found by their servers
pub total-weights : (active : List ServerId) (weights : List ℕ) → RiseFrom 0 active → length weights ≡ length active
    → sum_by (quota_of active weights) active ≡ sum weights
total-weights active weights rise h =
    sum_by-total (quota_of active weights) active ∙ total-quota_of 0 active weights rise h

pub some_weight : (weights : List ℕ) → 0 < length weights → All (IsWithin 1 1000) weights → 0 < sum weights
some_weight [] h all = absurd (omega arith)
some_weight (w ∷ weights) h all =
    let one = All-head (IsWithin 1 1000) w weights all
    in omega (arith, one.0, sum_by-cons (λ n. n) w weights)

-- each server's part
abbrev pub part : ℕ → (ServerId → ℕ) → List ServerId → ServerId → Part
part buckets weight active s = part_of buckets (sum_by weight active) s (weight s)

-- what the loops have made
pub record AreParts (buckets : ℕ) (active : List ServerId) (weights : List ℕ) (parts : List Part) : Type 0 where
  pub some : 0 < length active
  pub rising : RiseFrom 0 active
  pub count : length weights ≡ length active
  pub range : All (IsWithin 1 1000) weights
  pub are : parts ≡ map (λ (p : ServerId × ℕ). part_of buckets (sum weights) p.0 p.1) (zip active weights)

lacks-lt : (w a b : ℕ) → a < w → b < w → ltb (w - a) (w - b) ≡ ltb b a
lacks-lt w a b h k =
    elim (cases_lt b a) [
      | inl less ↦ lt-ltb (w - a) (w - b) (omega arith) ∙ sym (lt-ltb b a less)
      | inr above ↦ le-ltb (w - a) (w - b) (omega arith) ∙ sym (le-ltb b a above)
    ]

lacks-eq : (w a b : ℕ) → a < w → b < w → eqb (w - a) (w - b) ≡ eqb a b
lacks-eq w a b h k =
    elim (cases_eq a b) [
      | inl same ↦ eq-eqb (w - a) (w - b) (omega arith) ∙ sym (eq-eqb a b same)
      | inr other ↦ ne_eqb (w - a) (w - b) (λ e. other (omega arith)) ∙ sym (ne_eqb a b other)
    ]

map-map : {X Y : Type 0} (g : X → Y) (f : ServerId → X) (xs : List ServerId) → map g (map f xs) ≡ map (λ s. g (f s)) xs
map-map g f [] = refl
map-map {X} {Y} g f (x ∷ xs) = ap (λ (ys : List Y). g (f x) ∷ ys) (map-map g f xs)

same_length-map : {X Y : Type 0} (f : X → Y) (xs : List X) → length (map f xs) ≡ length xs
same_length-map f [] = refl
same_length-map f (x ∷ xs) = ap suc (same_length-map f xs)

module _ (buckets : ℕ) (active : List ServerId) (weights : List ℕ) (parts : List Part)
    (made : AreParts buckets active weights parts) where
  abbrev pub weight : ServerId → ℕ
  weight = quota_of active weights

  positive : 0 < sum_by weight active
  positive =
      omega (
        arith,
        total-weights active weights made.rising made.count,
        some_weight weights (omega (arith, made.count, made.some)) made.range,
      )

  are_parts : parts ≡ map (part buckets weight active) active
  are_parts =
      made.are
      ∙ ap (λ n. map (λ (p : ServerId × ℕ). part_of buckets n p.0 p.1) (zip active weights))
      (sym (total-weights active weights made.rising made.count))
      ∙ zip-weights (part_of buckets (sum_by weight active)) 0 active weights made.rising made.count

  pub sum_shares : sum_by (λ p. p.share) parts ≡ sum_by (share buckets (quota_of active weights) active) active
  sum_shares = ap (sum_by (λ (p : Part). p.share)) are_parts ∙ sum_by-map (λ (p : Part). p.share) (part buckets weight active) active

  pub parts_within : sum_by (λ p. p.share) parts ≤ buckets
  parts_within = omega (arith, sum_shares, shares-le buckets weight active positive)

  pub few_left : buckets - sum_by (λ p. p.share) parts < length parts
  few_left =
      omega (
        arith,
        sum_shares,
        shortfall-lt buckets weight active positive made.some,
        ap length are_parts ∙ same_length-map (part buckets weight active) active,
      )

  claims_agree : (s t : ServerId)
      → is_met_before (part buckets weight active s).claim (part buckets weight active t).claim
      ≡ comes_before (remainder buckets weight active) s t
  claims_agree s t =
      let few = mod-lt (buckets * weight s) positive
      in let few' = mod-lt (buckets * weight t) positive
      in ap (λ b. b || eqb (sum_by weight active - remainder buckets weight active s) (sum_by weight active - remainder buckets weight active t) && ltb s.0 t.0)
      (lacks-lt (sum_by weight active) (remainder buckets weight active s) (remainder buckets weight active t) few few')
      ∙ ap (λ b. ltb (remainder buckets weight active t) (remainder buckets weight active s) || b && ltb s.0 t.0)
      (lacks-eq (sum_by weight active) (remainder buckets weight active s) (remainder buckets weight active t) few few')

  pub quotas_made : (next : Claim)
      → StandsAt (map (λ p. p.claim) parts) (buckets - sum_by (λ p. p.share) parts) next
      → map (λ p. p.share + cond (is_met_before p.claim next) 1 0) parts ≡ quotas_of buckets weight active
  quotas_made next at_ =
      ap (map (λ (p : Part). p.share + cond (is_met_before p.claim next) 1 0)) are_parts
      ∙ map-map (λ (p : Part). p.share + cond (is_met_before p.claim next) 1 0) (part buckets weight active) active
      ∙ map-same (λ s. share buckets weight active s
      + cond (is_met_before (part buckets weight active s).claim next) 1 0) (quota buckets weight active) active
      (λ s a. ap (λ b. share buckets weight active s + cond b 1 0)
      (met-ranks (λ t. (part buckets weight active t).claim) (comes_before (remainder buckets weight active))
      (Ranks-stands (remainder buckets weight active)) claims_agree 0 active made.rising
      (shortfall buckets weight active) next stands s a))
    where
      stands : StandsAt (map (λ s. (part buckets weight active s).claim) active) (shortfall buckets weight active) next
      stands =
          subst (λ (cs : List Claim). StandsAt cs (shortfall buckets weight active) next)
          (ap (map (λ (p : Part). p.claim)) are_parts ∙ map-map (λ (p : Part). p.claim) (part buckets weight active) active)
          (subst (λ n. StandsAt (map (λ p. p.claim) parts) n next) (ap (λ n. buckets - n) sum_shares) at_)

  -- and none is too large for its type
  pub quotas_fit : (next : Claim)
      → StandsAt (map (λ p. p.claim) parts) (buckets - sum_by (λ p. p.share) parts) next
      → All (λ p. p.share + cond (is_met_before p.claim next) 1 0 ≤ buckets) parts
  quotas_fit next at_ = λ k d h.
      let one = get_or-map (λ (p : Part). p.share + cond (is_met_before p.claim next) 1 0) parts k d 0 h
      in let most = get_or-le-sum_by (λ n. n) (map (λ (p : Part). p.share + cond (is_met_before p.claim next) 1 0) parts)
      k 0 (omega (arith, h, same_length-map (λ (p : Part). p.share + cond (is_met_before p.claim next) 1 0) parts))
      in let sums = ap sum (quotas_made next at_) ∙ sum-quotas_of buckets weight active made.rising made.some positive
      in omega (arith, one, most, sums)

  pub quotas_total : sum (quotas_of buckets (quota_of active weights) active) ≡ buckets
  quotas_total = sum-quotas_of buckets weight active made.rising made.some positive

-- quotas depend on what the active servers weigh alone
pub quotas-same : (buckets : ℕ) (f g : ServerId → ℕ) (active : List ServerId)
    → ((s : ServerId) → is_among active s ≡ true → f s ≡ g s)
    → quotas_of buckets f active ≡ quotas_of buckets g active
quotas-same buckets f g active same = map-same (quota buckets f active) (quota buckets g active) active each
  where
    sums : sum_by f active ≡ sum_by g active
    sums = sum_by-same f g active same

    shares : (s : ServerId) → is_among active s ≡ true → share buckets f active s ≡ share buckets g active s
    shares s a = ap (λ n. buckets * n / sum_by f active) (same s a) ∙ ap (λ n. buckets * g s / n) sums

    rests : (s : ServerId) → is_among active s ≡ true → remainder buckets f active s ≡ remainder buckets g active s
    rests s a = ap (λ n. buckets * n % sum_by f active) (same s a) ∙ ap (λ n. buckets * g s % n) sums

    short : shortfall buckets f active ≡ shortfall buckets g active
    short =
        ap (λ n. buckets - n)
        (sum_by-same (share buckets f active) (share buckets g active) active shares)

    stands : (t s : ServerId) → is_among active t ≡ true → is_among active s ≡ true
        → comes_before (remainder buckets f active) t s ≡ comes_before (remainder buckets g active) t s
    stands t s a b =
        ap (λ m. ltb m (remainder buckets f active t) || eqb (remainder buckets f active t) m && ltb t.0 s.0)
        (rests s b)
        ∙ ap (λ m. ltb (remainder buckets g active s) m || eqb m (remainder buckets g active s) && ltb t.0 s.0)
        (rests t a)

    each : (s : ServerId) → is_among active s ≡ true → quota buckets f active s ≡ quota buckets g active s
    each s a =
        let ranks = count-same (λ t. comes_before (remainder buckets f active) t s)
        (λ t. comes_before (remainder buckets g active) t s) active (λ t b. stands t s b a)
        in ap (λ n. n + cond (ltb (rank (comes_before (remainder buckets f active)) active s)
        (shortfall buckets f active)) 1 0) (shares s a)
        ∙ ap (λ n. share buckets g active s + cond (ltb n (shortfall buckets f active)) 1 0) ranks
        ∙ ap (λ n. share buckets g active s
        + cond (ltb (rank (comes_before (remainder buckets g active)) active s) n) 1 0) short

-- what is listed beside each server is found at it
pub quota_of-map : (f : ServerId → ℕ) (low : ℕ) (active : List ServerId) → RiseFrom low active → (s : ServerId)
    → is_among active s ≡ true → quota_of active (map f active) s ≡ f s
quota_of-map f low [] rise s a = absurd (cc a)
quota_of-map f low (t ∷ active) rise s a =
    elim (cases_server t s) [
      | inl same ↦ rw same.0 (ap f same.1)
      | inr other ↦
          let later : is_among active s ≡ true = rw other.0 at a
          in rw other.0 (quota_of-map f (t.0 + 1) active rise.1 s later)
    ]

-- the active servers weigh something
pub some_weighs : (f : ServerId → ℕ) (active : List ServerId) → 0 < length active
    → ((s : ServerId) → is_among active s ≡ true → IsWithin 1 1000 (f s)) → 0 < sum_by f active
some_weighs f [] some within = absurd (omega arith)
some_weighs f (t ∷ active) some within = omega (arith, (within t (here_among t active)).0, sum_by-cons f t active)

pub weights_within : (f : ServerId → ℕ) (active : List ServerId)
    → ((s : ServerId) → is_among active s ≡ true → IsWithin 1 1000 (f s)) → All (IsWithin 1 1000) (map f active)
weights_within f [] within = All-nil (IsWithin 1 1000)
weights_within f (t ∷ active) within =
    All-cons (IsWithin 1 1000) (f t) (map f active) (within t (here_among t active))
    (weights_within f active (λ s a. within s (there_among t s active a)))
