-- How many stand before each of some servers, by an order of servers.
use Rattle.std.proofs.Common.{◌≡◌, ◌≢◌, ℕ, ◌+◌, ◌-◌, ◌<◌, ◌≤◌, min, Bool, true, false, cond, ltb}
use Rattle.std.proofs.Common.{List, [], ◌∷◌, length, map, inl, inr, refl, ap, sym, ◌∙◌, arith}
use Rattle.std.proofs.lemmas.Bool.{cases_Bool, cases_lt, lt-ltb, le-ltb, or_left, or_right}
use Rattle.std.proofs.lemmas.List.Sums.{sum_by-cons, count_by-le-length}
use Rattle.std.specs.List.{count_by, sum_by}
use Rattle.bm_base.specs.declared.ids.ServerId.{ServerId}
use Rattle.bm_quota.proofs.QuotaLemmas.{first_not_among}
use Rattle.bm_quota.proofs.RoomLemmas.{cases_server, same_server-refl}
use Rattle.bm_table.specs.Settings.{RiseFrom}
use Rattle.bm_table.specs.Tables.{is_among, same_server}

-- an order in which no two different servers stand together
pub record Ranks (before : ServerId → ServerId → Bool) : Type 0 where
  pub apart : (s : ServerId) → before s s ≡ false
  pub through : (r s t : ServerId) → before r s ≡ true → before s t ≡ true → before r t ≡ true
  pub either : (s t : ServerId) → s ≢ t → before s t ≡ false → before t s ≡ true

-- how many of them stand before one
abbrev pub rank : (ServerId → ServerId → Bool) → List ServerId → ServerId → ℕ
rank before xs s = count_by (λ t. before t s) xs

pub here_among : (x : ServerId) (xs : List ServerId) → is_among (x ∷ xs) x ≡ true
here_among x xs = or_left (same_server x x) (is_among xs x) (same_server-refl x)

pub there_among : (x t : ServerId) (xs : List ServerId) → is_among xs t ≡ true → is_among (x ∷ xs) t ≡ true
there_among x t xs h = or_right (same_server x t) (is_among xs t) h

pub count-cons : (p : ServerId → Bool) (x : ServerId) (xs : List ServerId)
    → count_by p (x ∷ xs) ≡ cond (p x) 1 0 + count_by p xs
count-cons p x xs = sum_by-cons (λ t. cond (p t) 1 0) x xs

-- sums and counts of what is the same for each of them
pub sum_by-same : (f g : ServerId → ℕ) (xs : List ServerId) → ((t : ServerId) → is_among xs t ≡ true → f t ≡ g t)
    → sum_by f xs ≡ sum_by g xs
sum_by-same f g [] h = refl
sum_by-same f g (x ∷ xs) h =
    let here : f x ≡ g x = h x (here_among x xs)
    in let rest : sum_by f xs ≡ sum_by g xs = sum_by-same f g xs (λ t a. h t (there_among x t xs a))
    in omega (arith, here, rest, sum_by-cons f x xs, sum_by-cons g x xs)

pub count-same : (p q : ServerId → Bool) (xs : List ServerId) → ((t : ServerId) → is_among xs t ≡ true → p t ≡ q t)
    → count_by p xs ≡ count_by q xs
count-same p q xs h = sum_by-same (λ t. cond (p t) 1 0) (λ t. cond (q t) 1 0) xs (λ t a. ap (λ b. cond b 1 0) (h t a))

pub map-same : {A : Type 0} (f g : ServerId → A) (xs : List ServerId)
    → ((t : ServerId) → is_among xs t ≡ true → f t ≡ g t) → map f xs ≡ map g xs
map-same f g [] h = refl
map-same {A} f g (x ∷ xs) h =
    ap (λ (y : A). y ∷ map f xs) (h x (here_among x xs))
    ∙ ap (λ (ys : List A). g x ∷ ys) (map-same f g xs (λ t a. h t (there_among x t xs a)))

-- what fewer pass is passed by fewer
one-le : (a b : Bool) → (a ≡ true → b ≡ true) → cond {A = ℕ} a 1 0 ≤ cond b 1 0
one-le false b h = omega arith
one-le true true h = omega arith
one-le true false h = absurd (cc (h refl))

pub count-le : (p q : ServerId → Bool) (xs : List ServerId) → ((t : ServerId) → p t ≡ true → q t ≡ true)
    → count_by p xs ≤ count_by q xs
count-le p q [] h = omega arith
count-le p q (x ∷ xs) h =
    omega (arith, count-cons p x xs, count-cons q x xs, one-le (p x) (q x) (h x), count-le p q xs h)

pub count-lt : (p q : ServerId → Bool) (xs : List ServerId) (s : ServerId)
    → ((t : ServerId) → p t ≡ true → q t ≡ true) → is_among xs s ≡ true → p s ≡ false → q s ≡ true
    → count_by p xs < count_by q xs
count-lt p q [] s h a not_p is_q = absurd (cc a)
count-lt p q (x ∷ xs) s h a not_p is_q =
    elim (cases_server x s) [
      | inl same ↦
          let p' : p x ≡ false = ap p same.1 ∙ not_p
          in let q' : q x ≡ true = ap q same.1 ∙ is_q
          in let none : cond {A = ℕ} (p x) 1 0 ≡ 0 = ap (λ b. cond b 1 0) p'
          in let some : cond {A = ℕ} (q x) 1 0 ≡ 1 = ap (λ b. cond b 1 0) q'
          in omega (arith, count-cons p x xs, count-cons q x xs, none, some, count-le p q xs h)
      | inr other ↦
          let a' : is_among xs s ≡ true = rw other.0 at a
          in omega (
            arith,
            count-cons p x xs,
            count-cons q x xs,
            one-le (p x) (q x) (h x),
            count-lt p q xs s h a' not_p is_q,
          )
    ]

-- who stands before another has the smaller rank
pub rank-lt : (before : ServerId → ServerId → Bool) → Ranks before → (xs : List ServerId) (s t : ServerId)
    → is_among xs s ≡ true → before s t ≡ true → rank before xs s < rank before xs t
rank-lt before o xs s t a h =
    count-lt (λ r. before r s) (λ r. before r t) xs s (λ r b. o.through r s t b h) a (o.apart s) h

pub rank-le : (before : ServerId → ServerId → Bool) → Ranks before → (xs : List ServerId) (s t : ServerId)
    → before s t ≡ true → rank before xs s ≤ rank before xs t
rank-le before o xs s t h = count-le (λ r. before r s) (λ r. before r t) xs (λ r b. o.through r s t b h)

-- as many have a rank below k as k says, or all
pub count-ranks : (before : ServerId → ServerId → Bool) → Ranks before → (low k : ℕ) (xs : List ServerId)
    → RiseFrom low xs → count_by (λ s. ltb (rank before xs s) k) xs ≡ min k (length xs)
count-ranks before o low k [] rise = omega arith
count-ranks before o low k (x ∷ xs) rise =
    let mine : rank before (x ∷ xs) x ≡ 0 + rank before xs x =
    count-cons (λ t. before t x) x xs ∙ ap (λ b. cond b 1 0 + rank before xs x) (o.apart x)
    in let most : rank before xs x ≤ length xs = count_by-le-length (λ t. before t x) xs
    in let split = count-cons (λ s. ltb (rank before (x ∷ xs) s) k) x xs
    in elim (cases_lt (rank before xs x) k) [
      | inl below ↦
          let here : cond {A = ℕ} (ltb (rank before (x ∷ xs) x) k) 1 0 ≡ 1 =
          ap (λ b. cond b 1 0) (lt-ltb (rank before (x ∷ xs) x) k (omega (arith, mine)))
          in let rest : count_by (λ s. ltb (rank before (x ∷ xs) s) k) xs ≡ min (k - 1) (length xs) =
          count-same (λ s. ltb (rank before (x ∷ xs) s) k) (λ s. ltb (rank before xs s) (k - 1)) xs
          (λ s a. within below s a) ∙ count-ranks before o (x.0 + 1) (k - 1) xs rise.1
          in split ∙ omega (arith, here, rest)
      | inr above ↦
          let here : cond {A = ℕ} (ltb (rank before (x ∷ xs) x) k) 1 0 ≡ 0 =
          ap (λ b. cond b 1 0) (le-ltb (rank before (x ∷ xs) x) k (omega (arith, mine)))
          in let rest : count_by (λ s. ltb (rank before (x ∷ xs) s) k) xs ≡ min k (length xs) =
          count-same (λ s. ltb (rank before (x ∷ xs) s) k) (λ s. ltb (rank before xs s) k) xs
          (λ s a. behind above s a) ∙ count-ranks before o (x.0 + 1) k xs rise.1
          in split ∙ omega (arith, here, rest)
    ]
  where
    differ : (s : ServerId) → is_among xs s ≡ true → x ≢ s
    differ s a e = let none : is_among xs s ≡ false = first_not_among low x xs s rise e in absurd (cc (sym none ∙ a))

    more : (s : ServerId) (b : Bool) → before x s ≡ b → rank before (x ∷ xs) s ≡ cond b 1 0 + rank before xs s
    more s b e = count-cons (λ t. before t s) x xs ∙ ap (λ c. cond c 1 0 + rank before xs s) e

    same_test : (m n k l : ℕ) → (m < k → n < l) → (n < l → m < k) → ltb m k ≡ ltb n l
    same_test m n k l f g =
        elim (cases_lt m k) [
          | inl under ↦ lt-ltb m k under ∙ sym (lt-ltb n l (f under))
          | inr over ↦ elim (cases_lt n l) [
            | inl under ↦ absurd (let h : m < k = g under in omega arith)
            | inr over' ↦ le-ltb m k over ∙ sym (le-ltb n l over')
          ]
        ]

    within : rank before xs x < k → (s : ServerId) → is_among xs s ≡ true
        → ltb (rank before (x ∷ xs) s) k ≡ ltb (rank before xs s) (k - 1)
    within below s a =
        elim (cases_Bool (before x s)) [
          | inl t ↦ let m = more s true t in same_test _ _ _ _ (λ h. omega (arith, m)) (λ h. omega (arith, m))
          | inr f ↦
              let m = more s false f
              in let less = rank-lt before o xs s x a (o.either x s (differ s a) f)
              in same_test _ _ _ _ (λ h. omega (arith, m, less)) (λ h. omega (arith, m, less))
        ]

    behind : k ≤ rank before xs x → (s : ServerId) → is_among xs s ≡ true
        → ltb (rank before (x ∷ xs) s) k ≡ ltb (rank before xs s) k
    behind above s a =
        elim (cases_Bool (before x s)) [
          | inl t ↦
              let m = more s true t
              in let most = rank-le before o xs x s t
              in same_test _ _ _ _ (λ h. omega (arith, m, most)) (λ h. omega (arith, m, most))
          | inr f ↦ let m = more s false f in same_test _ _ _ _ (λ h. omega (arith, m)) (λ h. omega (arith, m))
        ]
