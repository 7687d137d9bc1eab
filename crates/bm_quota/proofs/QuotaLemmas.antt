-- Quotas, and the sums over servers.
use Rattle.std.proofs.Common.{◌≡◌, ◌≢◌, ℕ, zero, suc, ◌+◌, ◌-◌, ◌<◌, ◌≤◌, Bool, true, false, ◌||◌}
use Rattle.std.proofs.Common.{cond, eqb, ltb, leb, List, [], ◌∷◌, ◌++◌, length, sum, inl, inr, refl, ap, sym, ◌∙◌}
use Rattle.std.proofs.Common.{arith, replicate}
use Rattle.std.proofs.lemmas.Bool.{cases_Bool, eq-eqb, eqb-true, ne_eqb, le-leb, lt-leb}
use Rattle.std.proofs.lemmas.Bool.{or_parts}
use Rattle.std.proofs.lemmas.List.{length-append, length-replicate}
use Rattle.std.proofs.lemmas.List.Elements.{All-head, All-tail}
use Rattle.std.proofs.lemmas.List.Sums.{sum_by-cons}
use Rattle.std.specs.List.{All}
use Rattle.bm_base.specs.declared.ids.ServerId.{ServerId}
use Rattle.bm_quota.proofs.LeastLemmas.{gives}
use Rattle.bm_quota.proofs.RoomLemmas.{cases_room, cases_server, owned-cons, same_server-refl, total}
use Rattle.bm_quota.specs.Rebalancing.{highest, owned, quota_of, sum_below, takers}
use Rattle.bm_quota.specs.Inside.Rooms.{given, kept, left}
use Rattle.bm_table.specs.Settings.{RiseFrom}
use Rattle.bm_table.specs.Tables.{is_among, same_server}

-- a server below the others isn't among them
pub not_among : (low : ℕ) (servers : List ServerId) (s : ServerId) → RiseFrom low servers → s.0 < low
    → is_among servers s ≡ false
not_among low [] s rise h = refl
not_among low (t ∷ servers) s rise h =
    let e : eqb t.0 s.0 ≡ false = ne_eqb _ _ (λ same. omega (arith, rise.0))
    in rw e (not_among (t.0 + 1) servers s rise.1 (omega (arith, rise.0)))

-- nor is the first of rising ones among the others
pub first_not_among : (low : ℕ) (t : ServerId) (servers : List ServerId) (s : ServerId) → RiseFrom low (t ∷ servers)
    → t ≡ s → is_among servers s ≡ false
first_not_among low t servers s rise e =
    let same : t.0 ≡ s.0 = ap (λ (x : ServerId). x.0) e
    in not_among (t.0 + 1) servers s rise.1 (omega arith)

owned-append : (xs ys : List ServerId) (s : ServerId) → owned (xs ++ ys) s ≡ owned xs s + owned ys s
owned-append [] ys s = omega arith
owned-append (x ∷ xs) ys s = omega (arith, owned-cons x (xs ++ ys) s, owned-cons x xs s, owned-append xs ys s)

owned-replicate_same : (n : ℕ) (t s : ServerId) → same_server t s ≡ true → owned (replicate n t) s ≡ n
owned-replicate_same zero t s e = refl
owned-replicate_same (suc n) t s e = rw e (ap suc (owned-replicate_same n t s e))

owned-replicate_other : (n : ℕ) (t s : ServerId) → same_server t s ≡ false → owned (replicate n t) s ≡ 0
owned-replicate_other zero t s e = refl
owned-replicate_other (suc n) t s e = rw e (owned-replicate_other n t s e)

-- how often a server is among the takers
pub owned-takers : (f : ServerId → ℕ) (low : ℕ) (servers : List ServerId) (s : ServerId) → RiseFrom low servers
    → owned (takers f servers) s ≡ cond (is_among servers s) (f s) 0
owned-takers f low [] s rise = refl
owned-takers f low (t ∷ servers) s rise =
    let old : owned (takers f servers) s ≡ cond (is_among servers s) (f s) 0 = owned-takers f (t.0 + 1) servers s rise.1
    in let parts : owned (replicate (f t) t ++ takers f servers) s
    ≡ owned (replicate (f t) t) s + owned (takers f servers) s = owned-append (replicate (f t) t) (takers f servers) s
    in elim (cases_server t s) [
      | inl same ↦
          let others : is_among servers s ≡ false = first_not_among low t servers s rise same.1
          in let none : owned (takers f servers) s ≡ 0 = rw others at old
          in let mine : owned (replicate (f t) t) s ≡ f s = owned-replicate_same (f t) t s same.0 ∙ ap f same.1
          in parts ∙ rw same.0 (omega arith)
      | inr other ↦
          let none : owned (replicate (f t) t) s ≡ 0 = owned-replicate_other (f t) t s other.0
          in parts ∙ rw other.0 (omega arith)
    ]

pub length-takers : (f : ServerId → ℕ) (servers : List ServerId) → length (takers f servers) ≡ total f servers
length-takers f [] = refl
length-takers f (t ∷ servers) =
    omega (
      arith,
      length-append (replicate (f t) t) (takers f servers),
      length-replicate (f t) t,
      length-takers f
          servers,
    )

or_true : (x : Bool) → (x || true) ≡ true
or_true true = refl
or_true false = refl

total-agree : (f g : ServerId → ℕ) (servers : List ServerId) → ((s : ServerId) → is_among servers s ≡ true → f s ≡ g s)
    → total f servers ≡ total g servers
total-agree f g [] e = refl
total-agree f g (t ∷ servers) e =
    let here : f t ≡ g t = e t (first t servers)
    in let rest : total f servers ≡ total g servers = total-agree f g servers (λ s h. e s (later t servers s h))
    in omega arith
  where
    first : (x : ServerId) (xs : List ServerId) → is_among (x ∷ xs) x ≡ true
    first x xs = let t : same_server x x ≡ true = same_server-refl x in rw t refl

    later : (x : ServerId) (xs : List ServerId) (s : ServerId) → is_among xs s ≡ true → is_among (x ∷ xs) s ≡ true
    later x xs s h = rw h (or_true (same_server x s))

total-beside : (room : ServerId → ℕ) (o : ServerId) (servers : List ServerId) → is_among servers o ≡ false
    → total (kept room o) servers ≡ total room servers
total-beside room o [] h = refl
total-beside room o (t ∷ servers) h =
    let parts = or_parts (same_server t o) (is_among servers o) h
    in let rest : total (kept room o) servers ≡ total room servers = total-beside room o servers parts.1
    in let apart : same_server o t ≡ false = ne_eqb _ _ (λ e. both _ parts.0 (eq-eqb _ _ (sym e)))
    in rw apart (ap (λ n. room t + n) rest)
  where
    both : (x : Bool) → x ≡ false → x ≡ true → ⊥
    both x e f = let g : false ≡ true = sym e ∙ f in absurd (cc)

-- one place less
pub total-kept : (room : ServerId → ℕ) (low : ℕ) (o : ServerId) (servers : List ServerId) → RiseFrom low servers
    → is_among servers o ≡ true → 0 < room o
    → suc (total (kept room o) servers) ≡ total room servers
total-kept room low o [] rise h some = absurd (cc)
total-kept room low o (t ∷ servers) rise h some =
    elim (cases_server t o) [
      | inl same ↦
          let others : is_among servers o ≡ false = first_not_among low t servers o rise same.1
          in let rest : total (kept room o) servers ≡ total room servers = total-beside room o servers others
          in let here : same_server o t ≡ true = eq-eqb _ _ (sym (eqb-true _ _ same.0))
          in let some' : 0 < room t = rw (← same.1) at some
          in rw here (omega arith)
      | inr other ↦
          let h' : is_among servers o ≡ true = rw other.0 at h
          in let rest : suc (total (kept room o) servers) ≡ total room servers =
          total-kept room (t.0 + 1) o servers rise.1 h' some
          in let apart : same_server o t ≡ false = ne_eqb _ _ (λ e. other.1 (λ i. record { 0 = sym e i }))
          in rw apart (omega arith)
    ]

pub left-kept : (room : ServerId → ℕ) (o : ServerId) (owners : List ServerId) → ltb 0 (room o) ≡ true
    → left room (o ∷ owners) ≡ left (kept room o) owners
left-kept room o owners t = λ i s. at s i
  where
    at : (s : ServerId) → left room (o ∷ owners) s ≡ left (kept room o) owners s
    at s = rw t refl

pub left-none : (room : ServerId → ℕ) (o : ServerId) (owners : List ServerId) → ltb 0 (room o) ≡ false
    → left room (o ∷ owners) ≡ left room owners
left-none room o owners t = λ i s. at s i
  where
    at : (s : ServerId) → left room (o ∷ owners) s ≡ left room owners s
    at s = rw t refl

kept-le : (room : ServerId → ℕ) (o s : ServerId) → kept room o s ≤ room s
kept-le room o s =
    elim (cases_server o s) [
      | inl same ↦ rw same.0 (omega arith)
      | inr other ↦ rw other.0 (omega arith)
    ]

-- the places that are left are as many as the buckets that are given, where there are as many places as buckets
pub total-left : (room : ServerId → ℕ) (low : ℕ) (servers : List ServerId) → RiseFrom low servers
    → ((s : ServerId) → is_among servers s ≡ false → room s ≡ 0)
    → (owners : List ServerId)
    → total (left room owners) servers + length owners ≡ gives room owners + total room servers
total-left room low servers rise outside [] = omega arith
total-left room low servers rise outside (o ∷ owners) =
    elim (cases_room (room o)) [
      | inl some ↦
          let inside : is_among servers o ≡ true = elim (cases_Bool (is_among servers o)) [
            | inl t ↦ t
            | inr f ↦ absurd (omega (arith, some.1, outside o f))
          ]
          in let old : total (left (kept room o) owners) servers + length owners
          ≡ gives (kept room o) owners + total (kept room o) servers
          = total-left (kept room o) low servers rise
          (λ s f. let k : kept room o s ≤ room s = kept-le room o s in let z : room s ≡ 0 =
          outside s f in omega arith) owners
          in let one : suc (total (kept room o) servers) ≡ total room servers =
          total-kept room low o servers rise inside some.1
          in let same : total (left room (o ∷ owners)) servers ≡ total (left (kept room o) owners) servers =
          ap (λ f. total f servers) (left-kept room o owners some.0)
          in let gone : gives room (o ∷ owners) ≡ gives (kept room o) owners = rw some.0 refl
          in omega (arith, old, one, same, gone)
      | inr none ↦
          let old : total (left room owners) servers + length owners ≡ gives room owners + total room servers =
          total-left room low servers rise outside owners
          in let same : total (left room (o ∷ owners)) servers ≡ total (left room owners) servers =
          ap (λ f. total f servers) (left-none room o owners none.0)
          in let gone : gives room (o ∷ owners) ≡ suc (gives room owners) = rw none.0 refl
          in omega (arith, old, same, gone)
    ]

pub quota_of-outside : (active : List ServerId) (quotas : List ℕ) (s : ServerId) → is_among active s ≡ false
    → quota_of active quotas s ≡ 0
quota_of-outside [] quotas s h = refl
quota_of-outside (t ∷ active) [] s h = refl
quota_of-outside (t ∷ active) (q ∷ quotas) s h =
    let parts = or_parts (same_server t s) (is_among active s) h
    in let apart : same_server t s ≡ false = parts.0
    in rw apart (quota_of-outside active quotas s parts.1)

-- the quotas of the active servers together
pub total-quota_of : (low : ℕ) (active : List ServerId) (quotas : List ℕ) → RiseFrom low active
    → length quotas ≡ length active → total (quota_of active quotas) active ≡ sum quotas
total-quota_of low [] [] rise h = refl
total-quota_of low [] (q ∷ quotas) rise h = absurd (omega arith)
total-quota_of low (t ∷ active) [] rise h = absurd (omega arith)
total-quota_of low (t ∷ active) (q ∷ quotas) rise h =
    let old : total (quota_of active quotas) active ≡ sum quotas =
    total-quota_of (t.0 + 1) active quotas rise.1 (omega arith)
    in let here : same_server t t ≡ true = same_server-refl t
    in let mine : quota_of (t ∷ active) (q ∷ quotas) t ≡ q = rw here refl
    in let rest : total (quota_of (t ∷ active) (q ∷ quotas)) active ≡ total (quota_of active quotas) active
    = total-agree (quota_of (t ∷ active) (q ∷ quotas)) (quota_of active quotas) active (λ s among. other s among)
    in omega (arith, old, mine, rest, sum_by-cons (λ x. x) q quotas)
  where
    other : (s : ServerId) → is_among active s ≡ true → quota_of (t ∷ active) (q ∷ quotas) s ≡ quota_of active quotas s
    other s among =
        elim (cases_server t s) [
          | inl same ↦ let none : is_among active s ≡ false =
              first_not_among low t active s rise same.1 in let e : false ≡ true = sym none ∙ among in absurd (cc)
          | inr apart ↦ rw apart.0 refl
        ]

-- what is left of a server's room
pub left-is : (room : ServerId → ℕ) (owners : List ServerId) (s : ServerId)
    → left room owners s ≡ room s - owned owners s
left-is room [] s = omega arith
left-is room (o ∷ owners) s =
    elim (cases_room (room o)) [
      | inl some ↦
          let old : left (kept room o) owners s ≡ kept room o s - owned owners s = left-is (kept room o) owners s
          in rw some.0 (elim (cases_server o s) [
            | inl same ↦ let old' : left (kept room o) owners s ≡ room s - 1 - owned owners s =
                rw same.0 at old in rw same.0 (omega arith)
            | inr other ↦ let old' : left (kept room o) owners s ≡ room s - owned owners s =
                rw other.0 at old in rw other.0 (omega arith)
          ])
      | inr none ↦
          let old : left room owners s ≡ room s - owned owners s = left-is room owners s
          in rw none.0 (elim (cases_server o s) [
            | inl same ↦ let empty : room s ≡ 0 = rw same.1 at none.1 in rw same.0 (omega arith)
            | inr other ↦ rw other.0 (omega arith)
          ])
    ]

-- one more bucket of a server lies before
more : (ServerId → ℕ) → ServerId → ServerId → ℕ
more before o s = cond (same_server o s) (suc (before s)) (before s)

more_here : (before : ServerId → ℕ) (o s : ServerId) → same_server o s ≡ true → more before o s ≡ suc (before s)
unfolding more
more_here before o s e = rw e refl

more_there : (before : ServerId → ℕ) (o s : ServerId) → same_server o s ≡ false → more before o s ≡ before s
unfolding more
more_there before o s e = rw e refl

-- the highest buckets of a server, as many as it has above its quota, are those for which it has no room
pub highest-given : (quota gives' room before : ServerId → ℕ) (b : ℕ) (owners : List ServerId)
    → ((s : ServerId) → gives' s ≡ before s + owned owners s - quota s) → ((s : ServerId) → room s ≡ quota s - before s)
    → highest gives' b owners ≡ given room b owners
highest-given quota gives' room before b [] g r = refl
highest-given quota gives' room before b (o ∷ owners) g r =
    let mine : owned (o ∷ owners) o ≡ suc (owned owners o) = let t : same_server o o ≡ true =
    same_server-refl o in rw t refl
    in let g' : gives' o ≡ before o + owned (o ∷ owners) o - quota o = g o
    in let r' : room o ≡ quota o - before o = r o
    in elim (cases_room (room o)) [
      | inl some ↦
          let t : leb (owned (o ∷ owners) o) (gives' o) ≡ false = lt-leb _ _ (omega (arith, mine, g', r', some.1))
          in let old : highest gives' (b + 1) owners ≡ given (kept room o) (b + 1) owners
          = highest-given quota gives' (kept room o) (more before o) (b + 1) owners (λ s. next_gives s)
          (λ s. next_room s)
          in ap (λ x. cond x (b ∷ highest gives' (b + 1) owners) (highest gives' (b + 1) owners)) t ∙ old
          ∙ sym (rw some.0 refl)
      | inr none ↦
          let t : leb (owned (o ∷ owners) o) (gives' o) ≡ true = le-leb _ _ (omega (arith, mine, g', r', none.1))
          in let old : highest gives' (b + 1) owners ≡ given room (b + 1) owners
          = highest-given quota gives' room (more before o) (b + 1) owners (λ s. next_gives s) (λ s. same_room none.1 s)
          in ap (λ x. cond x (b ∷ highest gives' (b + 1) owners) (highest gives' (b + 1) owners)) t
          ∙ ap (λ (xs : List ℕ). b ∷ xs) old ∙ sym (rw none.0 refl)
    ]
  where
    next_gives : (s : ServerId) → gives' s ≡ more before o s + owned owners s - quota s
    next_gives s =
        let h : gives' s ≡ before s + owned (o ∷ owners) s - quota s = g s
        in elim (cases_server o s) [
          | inl same ↦ let h' : gives' s ≡ before s + suc (owned owners s) - quota s =
              rw same.0 at h in omega (arith, more_here before o s same.0)
          | inr other ↦ let h' : gives' s ≡ before s + owned owners s - quota s =
              rw other.0 at h in omega (arith, more_there before o s other.0)
        ]

    next_room : (s : ServerId) → kept room o s ≡ quota s - more before o s
    next_room s =
        let h : room s ≡ quota s - before s = r s
        in elim (cases_server o s) [
          | inl same ↦ let m : more before o s ≡ suc (before s) = more_here before o s same.0 in rw same.0 (omega arith)
          | inr other ↦ let m : more before o s ≡ before s = more_there before o s other.0 in rw other.0 (omega arith)
        ]

    same_room : room o ≡ 0 → (s : ServerId) → room s ≡ quota s - more before o s
    same_room z s =
        let h : room s ≡ quota s - before s = r s
        in elim (cases_server o s) [
          | inl same ↦ let m : more before o s ≡ suc (before s) = more_here before o s same.0 in let z' : room s ≡ 0 =
              rw same.1 at z in omega arith
          | inr other ↦ let m : more before o s ≡ before s = more_there before o s other.0 in omega arith
        ]

-- sums over the servers below a number
sum_below-same : (f g : ServerId → ℕ) (n : ℕ) → ((s : ServerId) → s.0 < n → f s ≡ g s) → sum_below f n ≡ sum_below g n
sum_below-same f g zero e = refl
sum_below-same f g (suc n) e =
    let here : f (record { 0 = n }) ≡ g (record { 0 = n }) = e (record { 0 = n }) (omega arith)
    in let rest : sum_below f n ≡ sum_below g n = sum_below-same f g n (λ s h. e s (omega arith))
    in omega arith

sum_below-one : (f g : ServerId → ℕ) (o : ServerId) (n : ℕ) → o.0 < n → f o ≡ suc (g o)
    → ((s : ServerId) → same_server o s ≡ false → f s ≡ g s) → sum_below f n ≡ suc (sum_below g n)
sum_below-one f g o zero h one others = absurd (omega arith)
sum_below-one f g o (suc n) h one others =
    elim (cases_server o (record { 0 = n })) [
      | inl same ↦
          let here : f (record { 0 = n }) ≡ suc (g (record { 0 = n })) = rw same.1 at one
          in let is : o.0 ≡ n = eqb-true _ _ same.0
          in let rest : sum_below f n ≡ sum_below g n =
          sum_below-same f g n (λ s l. others s (ne_eqb _ _ (λ e. omega arith)))
          in omega arith
      | inr other ↦
          let here : f (record { 0 = n }) ≡ g (record { 0 = n }) = others (record { 0 = n }) other.0
          in let apart : o.0 ≢ n = λ e. other.1 (λ i. record { 0 = e i })
          in let rest : sum_below f n ≡ suc (sum_below g n) = sum_below-one f g o n (omega arith) one others
          in omega arith
    ]

-- the buckets that are given are as many as the surpluses together
pub gives-sum_below : (room : ServerId → ℕ) (owners : List ServerId) (n : ℕ) → All (λ s. s.0 < n) owners
    → gives room owners ≡ sum_below (λ s. owned owners s - room s) n
gives-sum_below room [] n h = sym (sum_below-zero n)
  where
    sum_below-zero : (k : ℕ) → sum_below (λ s. 0 - room s) k ≡ 0
    sum_below-zero zero = refl
    sum_below-zero (suc k) = omega (arith, sum_below-zero k)
gives-sum_below room (o ∷ owners) n h =
    let rest = All-tail (λ (s : ServerId). s.0 < n) o owners h
    in elim (cases_room (room o)) [
      | inl some ↦
          let old : gives (kept room o) owners ≡ sum_below (λ s. owned owners s - kept room o s) n =
          gives-sum_below (kept room o) owners n rest
          in rw some.0
          (old ∙ sum_below-same (λ s. owned owners s - kept room o s) (λ s. owned (o ∷ owners) s - room s) n
          (λ s l. kept_one some.1 s))
      | inr none ↦
          let old : gives room owners ≡ sum_below (λ s. owned owners s - room s) n = gives-sum_below room owners n rest
          in let one : sum_below (λ s. owned (o ∷ owners) s - room s) n
          ≡ suc (sum_below (λ s. owned owners s - room s) n)
          = sum_below-one (λ s. owned (o ∷ owners) s - room s) (λ s. owned owners s - room s) o n
          (All-head (λ (s : ServerId). s.0 < n) o owners h) (given_one none.1) (λ s f. given_other s f)
          in rw none.0 (ap suc old ∙ sym one)
    ]
  where
    kept_one : 0 < room o → (s : ServerId) → owned owners s - kept room o s ≡ owned (o ∷ owners) s - room s
    kept_one some s =
        elim (cases_server o s) [
          | inl same ↦ let some' : 0 < room s = rw same.1 at some in rw same.0 (omega arith)
          | inr other ↦ rw other.0 refl
        ]

    given_one : room o ≡ 0 → owned (o ∷ owners) o - room o ≡ suc (owned owners o - room o)
    given_one z = let t : same_server o o ≡ true = same_server-refl o in rw t (omega arith)

    given_other : (s : ServerId) → same_server o s ≡ false → owned (o ∷ owners) s - room s ≡ owned owners s - room s
    given_other s f = rw f refl
