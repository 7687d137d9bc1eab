-- The chosen list of moves: what it reaches, how long it is, and that no shorter one will do.
use Rattle.std.proofs.Common.{◌≡◌, ℕ, suc, ◌+◌, ◌-◌, ◌<◌, ◌≤◌, true, false, cond, eqb, ltb, List, [], ◌∷◌, None, length}
use Rattle.std.proofs.Common.{sum, inl, inr, refl, ap, sym, ◌∙◌, arith}
use Rattle.std.proofs.lemmas.Bool.{cases_Bool, cases_eq, eq-eqb, ne_eqb}
use Rattle.std.specs.List.{All}
use Rattle.std.specs.Option.{IfSome}
use Rattle.bm_base.specs.declared.ids.ServerId.{ServerId}
use Rattle.bm_quota.proofs.LeastLemmas.{gives, gives-le-length, length-given}
use Rattle.bm_quota.proofs.QuotaLemmas.{gives-sum_below, highest-given, left-is, length-takers, owned-takers}
use Rattle.bm_quota.proofs.QuotaLemmas.{quota_of-outside, total-left, total-quota_of}
use Rattle.bm_quota.proofs.RoomLemmas.{cases_room, cases_server, handed, left-le, owned-cons, owned-handed}
use Rattle.bm_quota.proofs.RoomLemmas.{owners_after-handed, same_server-refl}
use Rattle.bm_quota.specs.Rebalancing.{moves_to, owned, owners_after, quota_of, rebalancing, sum_below, surplus, takers}
use Rattle.bm_quota.specs.Rebalancing.{ReachQuotas}
use Rattle.bm_quota.specs.Inside.Rooms.{given, kept, left}
use Rattle.bm_table.specs.Plans.{bucket_already_there, MovesRise}
use Rattle.bm_table.specs.Settings.{RiseFrom}
use Rattle.bm_table.specs.Tables.{is_among, same_server, target}
use Rattle.bm_table.specs.declared.plan.Move.{Move}

-- the condition of a rebalancing
pub record AreQuotas (owners active : List ServerId) (quotas : List ℕ) : Type 0 where
  pub rising : RiseFrom 0 active
  pub count : length quotas ≡ length active
  pub total : sum quotas ≡ length owners

-- it is found by going over the buckets once
pub rebalancing-rooms : (owners active : List ServerId) (quotas : List ℕ)
    → rebalancing owners active quotas ≡ moves_to (given (quota_of active quotas) 0 owners)
    (takers (left (quota_of active quotas) owners) active)
rebalancing-rooms owners active quotas =
    ap (λ (bs : List ℕ). moves_to bs (takers (λ s. quota_of active quotas s - owned owners s) active))
    (highest-given (quota_of active quotas) (surplus owners active quotas) (quota_of active quotas) (λ _. 0) 0 owners
    (λ s. omega arith) (λ s. omega arith))
    ∙ ap (λ f. moves_to (given (quota_of active quotas) 0 owners) (takers f active)) rooms
  where
    rooms : (λ (s : ServerId). quota_of active quotas s - owned owners s) ≡ left (quota_of active quotas) owners
    rooms = λ i s. sym (left-is (quota_of active quotas) owners s) i

-- as many takers as given buckets
pub same_length : (owners active : List ServerId) (quotas : List ℕ) → AreQuotas owners active quotas
    → length (given (quota_of active quotas) 0 owners) ≡ length (takers (left (quota_of active quotas) owners) active)
same_length owners active quotas are =
    omega (
      arith,
      length-given (quota_of active quotas) 0 owners,
      length-takers (left (quota_of active quotas) owners) active,
      total-left (quota_of active quotas) 0 active are.rising (λ s f. quota_of-outside active quotas s f) owners,
      total-quota_of 0 active quotas are.rising are.count,
      are.total,
    )

length-moves_to : (bs : List ℕ) (ss : List ServerId) → length bs ≡ length ss → length (moves_to bs ss) ≡ length bs
length-moves_to [] ss h = refl
length-moves_to (b ∷ bs) [] h = absurd (omega arith)
length-moves_to (b ∷ bs) (s ∷ ss) h = ap suc (length-moves_to bs ss (omega arith))

pub length-rebalancing : (owners active : List ServerId) (quotas : List ℕ) → AreQuotas owners active quotas
    → length (rebalancing owners active quotas) ≡ gives (quota_of active quotas) owners
length-rebalancing owners active quotas are =
    ap length (rebalancing-rooms owners active quotas)
    ∙ length-moves_to (given (quota_of active quotas) 0 owners) (takers (left (quota_of active quotas) owners) active)
    (same_length owners active quotas are)
    ∙ length-given (quota_of active quotas) 0 owners

-- it is as long as the surpluses say
pub length-rebalancing-sum : (owners active : List ServerId) (quotas : List ℕ) → AreQuotas owners active quotas
    → (n : ℕ) → All (λ s. s.0 < n) owners
    → length (rebalancing owners active quotas) ≡ sum_below (surplus owners active quotas) n
length-rebalancing-sum owners active quotas are n h =
    length-rebalancing owners active quotas are ∙ gives-sum_below (quota_of active quotas) owners n h

-- no list that reaches the quotas is shorter
pub rebalancing-least : (owners active : List ServerId) (quotas : List ℕ) → AreQuotas owners active quotas
    → (others : List Move) → ReachQuotas owners active quotas others
    → length (rebalancing owners active quotas) ≤ length others
rebalancing-least owners active quotas are others reach =
    omega (
      arith,
      length-rebalancing owners active quotas are,
      gives-le-length (quota_of active quotas) owners others
          (λ s. let e = reach s in omega arith),
    )

-- a server takes as many buckets as it lacks
takers_left : (owners active : List ServerId) (quotas : List ℕ) → RiseFrom 0 active → (s : ServerId)
    → owned (takers (left (quota_of active quotas) owners) active) s ≡ left (quota_of active quotas) owners s
takers_left owners active quotas rise s =
    let times : owned (takers (left (quota_of active quotas) owners) active) s
    ≡ cond (is_among active s) (left (quota_of active quotas) owners s) 0
    = owned-takers (left (quota_of active quotas) owners) 0 active s rise
    in elim (cases_Bool (is_among active s)) [
      | inl t ↦ rw t at times
      | inr f ↦
          let none : owned (takers (left (quota_of active quotas) owners) active) s ≡ 0 = rw f at times
          in let no_room : quota_of active quotas s ≡ 0 = quota_of-outside active quotas s f
          in let fewer : left (quota_of active quotas) owners s ≤ quota_of active quotas s =
          left-le (quota_of active quotas) owners s
          in omega arith
    ]

pub rebalancing-reaches : (owners active : List ServerId) (quotas : List ℕ) → AreQuotas owners active quotas
    → ReachQuotas owners active quotas (rebalancing owners active quotas)
rebalancing-reaches owners active quotas are = λ s.
    let after : owners_after (rebalancing owners active quotas) 0 owners
    ≡ handed (quota_of active quotas) owners (takers (left (quota_of active quotas) owners) active)
    = ap (λ (ms : List Move). owners_after ms 0 owners) (rebalancing-rooms owners active quotas)
    ∙ owners_after-handed (quota_of active quotas) 0 owners (takers (left (quota_of active quotas) owners) active)
    (same_length owners active quotas are)
    in let sums =
    owned-handed (quota_of active quotas) 0 owners (takers (left (quota_of active quotas) owners) active) s
    (same_length owners active quotas are)
    in ap (λ (os : List ServerId). owned os s) after
    ∙ omega (arith, sums, takers_left owners active quotas are.rising s)

-- the buckets of moves to given takers rise
pub MovesRise-lower : (buckets low : ℕ) (moves : List Move) → MovesRise buckets (low + 1) moves
    → MovesRise buckets low moves
MovesRise-lower buckets low [] h = tt
MovesRise-lower buckets low (m ∷ moves) h = (omega (arith, h.0), h.1, h.2)

MovesRise-given : (room : ServerId → ℕ) (buckets b : ℕ) (owners ts : List ServerId) → b + length owners ≤ buckets
    → MovesRise buckets b (moves_to (given room b owners) ts)
MovesRise-given room buckets b [] ts h = tt
MovesRise-given room buckets b (o ∷ owners) ts h =
    elim (cases_room (room o)) [
      | inl some ↦ rw some.0
          (MovesRise-lower buckets b (moves_to (given (kept room o) (b + 1) owners) ts)
          (MovesRise-given (kept room o) buckets (b + 1) owners ts (omega arith)))
      | inr none ↦ rw none.0 (one ts (λ xs. MovesRise-given room buckets (b + 1) owners xs (omega arith)))
    ]
  where
    one : (xs : List ServerId)
        → ((rest : List ServerId) → MovesRise buckets (b + 1) (moves_to (given room (b + 1) owners) rest))
        → MovesRise buckets b (moves_to (b ∷ given room (b + 1) owners) xs)
    one [] old = tt
    one (x ∷ xs) old = (omega arith, omega arith, old xs)

pub MovesRise-rebalancing : (owners active : List ServerId) (quotas : List ℕ)
    → MovesRise (length owners) 0 (rebalancing owners active quotas)
MovesRise-rebalancing owners active quotas =
    rw (rebalancing-rooms owners active quotas)
    (MovesRise-given (quota_of active quotas) (length owners) 0 owners
    (takers (left (quota_of active quotas) owners) active) (omega arith))

-- the servers of the buckets from b on
abbrev pub Serves : (ℕ → ServerId) → ℕ → List ServerId → Type 0
Serves server b [] = Unit {0}
Serves server b (o ∷ owners) = (server b ≡ o) × Serves server (b + 1) owners

no_same : (x p : ServerId) → same_server x p ≡ false → p.0 ≡ x.0 → ⊥
no_same x p f e = let t : eqb x.0 p.0 ≡ true = eq-eqb _ _ (sym e) in let g : false ≡ true = sym f ∙ t in absurd (cc)

-- who has no place left takes nothing, so no bucket goes to the server where it is
not_home : (server : ℕ → ServerId) (room : ServerId → ℕ) (b : ℕ) (owners ts : List ServerId) → Serves server b owners
    → ((s : ServerId) → left room owners s ≡ 0 → owned ts s ≡ 0)
    → bucket_already_there server (moves_to (given room b owners) ts) ≡ None
not_home server room b [] ts serves h = refl
not_home server room b (o ∷ owners) ts serves h =
    elim (cases_room (room o)) [
      | inl some ↦ rw some.0 (not_home server (kept room o) (b + 1) owners ts serves.1 (λ s z. h s (rw some.0 z)))
      | inr none ↦ rw none.0 (one none.0 none.1 ts h (λ xs g. not_home server room (b + 1) owners xs serves.1 g))
    ]
  where
    one : ltb 0 (room o) ≡ false → room o ≡ 0 → (xs : List ServerId)
        → ((s : ServerId) → left room (o ∷ owners) s ≡ 0 → owned xs s ≡ 0)
        → ((rest : List ServerId) → ((s : ServerId) → left room owners s ≡ 0 → owned rest s ≡ 0)
        → bucket_already_there server (moves_to (given room (b + 1) owners) rest) ≡ None)
        → bucket_already_there server (moves_to (b ∷ given room (b + 1) owners) xs) ≡ None
    one f z [] g old = refl
    one f z (x ∷ xs) g old =
        let fewer : left room owners o ≤ room o = left-le room owners o
        in let full : left room owners o ≡ 0 = omega arith
        in let mine : owned (x ∷ xs) o ≡ 0 = g o (rw f full)
        in let apart : same_server x o ≡ false = elim (cases_server x o) [
          | inl same ↦ let m : suc (owned xs o) ≡ 0 = rw same.0 at mine in absurd (omega arith)
          | inr other ↦ other.0
        ]
        in let here : server b ≡ o = serves.0
        in let home : same_server (server b) x ≡ false = rw here (ne_eqb _ _ (λ e. no_same x o apart e))
        in rw home
        (old xs (λ s y. let all : owned (x ∷ xs) s ≡ 0 = g s (rw f y) in omega (arith, all, owned-cons x xs s)))

pub rebalancing-changes : (server : ℕ → ServerId) (owners active : List ServerId) (quotas : List ℕ) → RiseFrom 0 active
    → Serves server 0 owners
    → bucket_already_there server (rebalancing owners active quotas) ≡ None
rebalancing-changes server owners active quotas rise serves =
    ap (bucket_already_there server) (rebalancing-rooms owners active quotas)
    ∙ not_home server (quota_of active quotas) 0 owners (takers (left (quota_of active quotas) owners) active) serves
    (λ s z. takers_left owners active quotas rise s ∙ z)

-- buckets go to active servers alone
goes_to : (servers : List ServerId) (bs : List ℕ) (ts : List ServerId)
    → ((s : ServerId) → is_among servers s ≡ false → owned ts s ≡ 0) → (b : ℕ)
    → IfSome (target (moves_to bs ts) b) (λ to. is_among servers to ≡ true)
goes_to servers [] ts h b = tt
goes_to servers (x ∷ bs) [] h b = tt
goes_to servers (x ∷ bs) (t ∷ ts) h b =
    elim (cases_eq x b) [
      | inl here ↦
          let e : eqb x b ≡ true = eq-eqb _ _ here
          in rw e (elim (cases_Bool (is_among servers t)) [
            | inl yes' ↦ yes'
            | inr f ↦
                let none : owned (t ∷ ts) t ≡ 0 = h t f
                in let same : same_server t t ≡ true = same_server-refl t
                in let m : suc (owned ts t) ≡ 0 = rw same at none
                in absurd (omega arith)
          ])
      | inr elsewhere ↦
          let e : eqb x b ≡ false = ne_eqb _ _ elsewhere
          in rw e (goes_to servers bs ts
          (λ s f. let all : owned (t ∷ ts) s ≡ 0 = h s f in omega (arith, all, owned-cons t ts s)) b)
    ]

pub rebalancing-targets : (owners active : List ServerId) (quotas : List ℕ) → RiseFrom 0 active → (b : ℕ)
    → IfSome (target (rebalancing owners active quotas) b) (λ to. is_among active to ≡ true)
rebalancing-targets owners active quotas rise b =
    rw (rebalancing-rooms owners active quotas)
    (goes_to active (given (quota_of active quotas) 0 owners) (takers (left (quota_of active quotas) owners) active)
    (λ s f. takes_none s f) b)
  where
    takes_none : (s : ServerId) → is_among active s ≡ false
        → owned (takers (left (quota_of active quotas) owners) active) s ≡ 0
    takes_none s f = let times = owned-takers (left (quota_of active quotas) owners) 0 active s rise in rw f at times
