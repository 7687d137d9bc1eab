-- One turn of each loop.
use Rattle.std.proofs.Common.{◌≡◌, ℕ, ◌+◌, ◌-◌, ◌<◌, ◌≤◌, Bool, true, false, ◌||◌, cond, ltb, List, [], ◌∷◌, ◌++◌, length}
use Rattle.std.proofs.Common.{map, inl, inr, refl, ap, sym, ◌∙◌, subst, arith, replicate, get_or, drop, append_assoc}
use Rattle.std.proofs.Math.ListN.{set}
use Rattle.std.proofs.lemmas.Bool.{cases_Bool, cases_lt, eqb-true, ltb-false}
use Rattle.std.proofs.lemmas.List.{at_drop_more, at_drop_all, get_or-set_same, get_or-set_other, get_or-replicate}
use Rattle.std.proofs.lemmas.List.{get_or_past, length-replicate, set_past}
use Rattle.std.specs.List.{zip}
use Rattle.bm_base.specs.declared.ids.ServerId.{ServerId}
use Rattle.bm_quota.proofs.QuotaLemmas.{first_not_among, quota_of-outside}
use Rattle.bm_quota.proofs.Rebalanced.{rebalancing-rooms}
use Rattle.bm_quota.proofs.RoomLemmas.{cases_server, left-le}
use Rattle.bm_quota.specs.Rebalancing.{moves_to, quota_of, rebalancing, takers}
use Rattle.bm_quota.specs.Inside.Rooms.{cleared, given, kept, left, room_in}
use Rattle.bm_table.specs.Settings.{RiseFrom}
use Rattle.bm_table.specs.Tables.{is_among, same_server}
use Rattle.bm_table.specs.declared.plan.Move.{Move}

pub zeros-at : (n i : ℕ) → get_or {A = ℕ} (replicate n 0) i 0 ≡ 0
zeros-at n i =
    elim (cases_lt i n) [
      | inl below ↦ get_or-replicate n i 0 0 below
      | inr past ↦ get_or_past (replicate n 0) i 0 (omega (arith, length-replicate {A = ℕ} n 0))
    ]

room_in-set_same : (rooms : List ℕ) (a s : ServerId) (n : ℕ) → a.0 < length rooms → same_server a s ≡ true
    → room_in (set rooms a.0 n) s ≡ n
room_in-set_same rooms a s n h e =
    ap (λ i. get_or (set rooms a.0 n) i 0) (sym (eqb-true _ _ e)) ∙ get_or-set_same rooms a.0 n 0 h

room_in-set_other : (rooms : List ℕ) (a s : ServerId) (n : ℕ) → (a ≡ s → ⊥)
    → room_in (set rooms a.0 n) s ≡ room_in rooms s
room_in-set_other rooms a s n h = get_or-set_other rooms a.0 s.0 n 0 (λ e. h (λ i. record { 0 = sym e i }))

-- one place less
pub room_in-kept : (rooms : List ℕ) (a : ServerId) → a.0 < length rooms
    → room_in (set rooms a.0 (room_in rooms a - 1)) ≡ kept (room_in rooms) a
room_in-kept rooms a h = λ i s. at s i
  where
    at : (s : ServerId) → room_in (set rooms a.0 (room_in rooms a - 1)) s ≡ kept (room_in rooms) a s
    at s =
        elim (cases_server a s) [
          | inl same ↦ rw same.0
              (room_in-set_same rooms a s (room_in rooms a - 1) h same.0 ∙ ap (λ x. room_in rooms x - 1) same.1)
          | inr other ↦ rw other.0 (room_in-set_other rooms a s (room_in rooms a - 1) other.1)
        ]

room_in-same : (rooms : List ℕ) (a : ServerId) → a.0 < length rooms → room_in rooms a ≡ 0
    → room_in (set rooms a.0 (room_in rooms a - 1)) ≡ room_in rooms
room_in-same rooms a h z = λ i s. at s i
  where
    at : (s : ServerId) → room_in (set rooms a.0 (room_in rooms a - 1)) s ≡ room_in rooms s
    at s =
        elim (cases_server a s) [
          | inl same ↦
              let z' : room_in rooms s ≡ 0 = rw same.1 at z
              in room_in-set_same rooms a s (room_in rooms a - 1) h same.0 ∙ omega arith
          | inr other ↦ room_in-set_other rooms a s (room_in rooms a - 1) other.1
        ]

-- where there is none, nothing changes
pub room_in-none : (rooms : List ℕ) (a : ServerId) → room_in rooms a ≡ 0
    → room_in (set rooms a.0 (room_in rooms a - 1)) ≡ room_in rooms
room_in-none rooms a z = elim (cases_lt a.0 (length rooms)) [
  | inl within ↦ room_in-same rooms a within z
  | inr past ↦ ap room_in (set_past rooms a.0 (room_in rooms a - 1) past)
]

-- the quota of the next active server was written at its number
pub record AreRooms (active : List ServerId) (quotas rooms : List ℕ) (i : ℕ) : Type 0 where
  pub low : ℕ
  pub rise : RiseFrom low (drop i active)
  pub empty : (s : ServerId) → low ≤ s.0 → room_in rooms s ≡ 0
  pub each : (s : ServerId) → room_in rooms s + quota_of (drop i active) (drop i quotas) s ≡ quota_of active quotas s

pub AreRooms-start : (active : List ServerId) (quotas rooms : List ℕ) → RiseFrom 0 active
    → ((i : ℕ) → get_or rooms i 0 ≡ 0) → AreRooms active quotas rooms 0
AreRooms-start active quotas rooms rise zero' = record {
  low = 0;
  rise = rise;
  empty = λ s h. zero' s.0;
  each = λ s. let z : room_in rooms s ≡ 0 = zero' s.0 in omega arith;
}

pub AreRooms-more : (active : List ServerId) (quotas rooms : List ℕ) (i : ℕ) (d : ServerId) → i < length active
    → i < length quotas → (get_or active i d).0 < length rooms
    → AreRooms active quotas rooms i
    → AreRooms active quotas (set rooms (get_or active i d).0 (get_or quotas i 0)) (i + 1)
AreRooms-more active quotas rooms i d h k l are = record {
  low = (get_or active i d).0 + 1;
  rise = rises.1;
  empty = λ s low. room_in-set_other rooms (get_or active i d) s (get_or quotas i 0)
      (λ e. let n : (get_or active i d).0 ≡ s.0 = ap (λ (x : ServerId). x.0) e in omega arith)
      ∙ are.empty s (omega (arith, rises.0, low));
  each = each;
}
  where
    rises : RiseFrom are.low (get_or active i d ∷ drop (i + 1) active)
    rises = subst (RiseFrom are.low) (at_drop_more (λ (xs : List ServerId). xs) active i d h) are.rise

    each : (s : ServerId)
        → room_in (set rooms (get_or active i d).0 (get_or quotas i 0)) s + quota_of (drop (i + 1) active)
        (drop (i + 1) quotas) s ≡ quota_of active quotas s
    each s =
        let first = at_drop_more (λ (xs : List ServerId). quota_of xs (drop i quotas) s) active i d h
        in let second =
        at_drop_more (λ (qs : List ℕ). quota_of (get_or active i d ∷ drop (i + 1) active) qs s) quotas i 0 k
        in let old : room_in rooms s + quota_of (get_or active i d ∷ drop (i + 1) active)
        (get_or quotas i 0 ∷ drop (i + 1) quotas) s ≡ quota_of active quotas s
        = ap (λ n. room_in rooms s + n) (sym (first ∙ second)) ∙ are.each s
        in elim (cases_server (get_or active i d) s) [
          | inl same ↦
              let old' : room_in rooms s + get_or quotas i 0 ≡ quota_of active quotas s = rw same.0 at old
              in let n : (get_or active i d).0 ≡ s.0 = ap (λ (x : ServerId). x.0) same.1
              in let bare : room_in rooms s ≡ 0 = are.empty s (omega (arith, rises.0))
              in let gone : quota_of (drop (i + 1) active) (drop (i + 1) quotas) s ≡ 0
              = quota_of-outside (drop (i + 1) active) (drop (i + 1) quotas) s
              (first_not_among are.low (get_or active i d) (drop (i + 1) active) s rises same.1)
              in let here : room_in (set rooms (get_or active i d).0 (get_or quotas i 0)) s ≡ get_or quotas i 0 =
              room_in-set_same rooms (get_or active i d) s (get_or quotas i 0) l same.0
              in omega arith
          | inr other ↦
              let old' : room_in rooms s + quota_of (drop (i + 1) active) (drop (i + 1) quotas) s
              ≡ quota_of active quotas s = rw other.0 at old
              in let here : room_in (set rooms (get_or active i d).0 (get_or quotas i 0)) s ≡ room_in rooms s =
              room_in-set_other rooms (get_or active i d) s (get_or quotas i 0) other.1
              in omega arith
        ]

-- a bucket was kept, or given
pub give_more : (owner : List ServerId) (i : ℕ) (d : ServerId) (room : ServerId → ℕ) (buckets all : List ℕ)
    → i < length owner → ltb 0 (room (get_or owner i d)) ≡ true
    → buckets ++ given room i (drop i owner) ≡ all → buckets
    ++ given (kept room (get_or owner i d)) (i + 1) (drop (i + 1) owner) ≡ all
give_more owner i d room buckets all h some e =
    ap (λ (xs : List ℕ). buckets ++ xs) (sym (at_drop_more (given room i) owner i d h ∙ rw some refl)) ∙ e

pub give_more-given : (owner : List ServerId) (i : ℕ) (d : ServerId) (room : ServerId → ℕ) (buckets all : List ℕ)
    → i < length owner → ltb 0 (room (get_or owner i d)) ≡ false
    → buckets ++ given room i (drop i owner) ≡ all → (buckets ++ i ∷ [])
    ++ given room (i + 1) (drop (i + 1) owner) ≡ all
give_more-given owner i d room buckets all h none e =
    append_assoc buckets (i ∷ []) (given room (i + 1) (drop (i + 1) owner))
    ∙ ap (λ (xs : List ℕ). buckets ++ xs) (sym (at_drop_more (given room i) owner i d h ∙ rw none refl))
    ∙ e

pub left_more : (owner : List ServerId) (i : ℕ) (d : ServerId) (room : ServerId → ℕ) (s : ServerId) (n : ℕ)
    → i < length owner → ltb 0 (room (get_or owner i d)) ≡ true
    → left room (drop i owner) s ≡ n → left (kept room (get_or owner i d)) (drop (i + 1) owner) s ≡ n
left_more owner i d room s n h some e =
    sym (at_drop_more (λ (xs : List ServerId). left room xs s) owner i d h ∙ rw some refl) ∙ e

pub left_more-none : (owner : List ServerId) (i : ℕ) (d : ServerId) (room : ServerId → ℕ) (s : ServerId) (n : ℕ)
    → i < length owner → ltb 0 (room (get_or owner i d)) ≡ false
    → left room (drop i owner) s ≡ n → left room (drop (i + 1) owner) s ≡ n
left_more-none owner i d room s n h none e =
    sym (at_drop_more (λ (xs : List ServerId). left room xs s) owner i d h ∙ rw none refl) ∙ e

-- a turn over the buckets: one more is kept, or given
pub record Gave (owner : List ServerId) (i : ℕ) (room : ServerId → ℕ) (buckets all : List ℕ) (rest : ServerId → ℕ) :
    Type 0 where
  pub so_far : buckets ++ given room i (drop i owner) ≡ all
  pub remaining : (s : ServerId) → left room (drop i owner) s ≡ rest s

-- where there is no such place, there is no room
pub no_place : (rooms : List ℕ) (i : ℕ) → length rooms ≤ i
    → (get_or rooms i 0 ≡ 0) × (set rooms i (get_or rooms i 0 - 1) ≡ rooms)
no_place rooms i past = (get_or_past rooms i 0 past, set_past rooms i (get_or rooms i 0 - 1) past)

some_place : (rooms : List ℕ) (i : ℕ) → ltb 0 (get_or rooms i 0) ≡ true → i < length rooms
some_place rooms i some = elim (cases_lt i (length rooms)) [
  | inl within ↦ within
  | inr past ↦
      let none : get_or rooms i 0 ≡ 0 = get_or_past rooms i 0 past
      in absurd (let bad : false ≡ true = rw none at some in cc)
]

pub Gave-kept : (owner : List ServerId) (i : ℕ) (d : ServerId) (rooms new buckets all : List ℕ) (rest : ServerId → ℕ)
    → i < length owner
    → new ≡ set rooms (get_or owner i d).0 (room_in rooms (get_or owner i d) - 1)
    → ltb 0 (room_in rooms (get_or owner i d)) ≡ true → Gave owner i (room_in rooms) buckets all rest
    → Gave owner (i + 1) (room_in new) buckets all rest
Gave-kept owner i d rooms new buckets all rest h is some gave =
    let l : (get_or owner i d).0 < length rooms = some_place rooms (get_or owner i d).0 some
    in subst (λ f. Gave owner (i + 1) f buckets all rest) (sym (ap room_in is ∙ room_in-kept rooms (get_or owner i d) l))
    (record {
      so_far = give_more owner i d (room_in rooms) buckets all h some gave.so_far;
      remaining = λ s. left_more owner i d (room_in rooms) s (rest s) h some (gave.remaining s);
    })

pub Gave-given : (owner : List ServerId) (i : ℕ) (d : ServerId) (rooms new buckets all : List ℕ) (rest : ServerId → ℕ)
    → i < length owner
    → new ≡ set rooms (get_or owner i d).0 (room_in rooms (get_or owner i d) - 1)
    → ltb 0 (room_in rooms (get_or owner i d)) ≡ false → Gave owner i (room_in rooms) buckets all rest
    → Gave owner (i + 1) (room_in new) (buckets ++ i ∷ []) all rest
Gave-given owner i d rooms new buckets all rest h is none gave =
    let bare : room_in rooms (get_or owner i d) ≤ 0 = ltb-false _ _ none
    in subst (λ f. Gave owner (i + 1) f (buckets ++ i ∷ []) all rest)
    (sym (ap room_in is ∙ room_in-none rooms (get_or owner i d) (omega arith))) (record {
      so_far = give_more-given owner i d (room_in rooms) buckets all h none gave.so_far;
      remaining = λ s. left_more-none owner i d (room_in rooms) s (rest s) h none (gave.remaining s);
    })

-- one more server took its buckets
pub takers_more : (room : ServerId → ℕ) (active : List ServerId) (i : ℕ) (d : ServerId) (so_far all : List ServerId)
    → i < length active
    → so_far ++ takers room (drop i active) ≡ all → (so_far ++ replicate (room (get_or active i d)) (get_or active i d))
    ++ takers room (drop (i + 1) active) ≡ all
takers_more room active i d so_far all h e =
    append_assoc so_far (replicate (room (get_or active i d)) (get_or active i d)) (takers room (drop (i + 1) active))
    ∙ ap (λ (xs : List ServerId). so_far ++ xs) (sym (at_drop_more (takers room) active i d h))
    ∙ e

pub moves_to-zip : (buckets : List ℕ) (servers : List ServerId)
    → map (λ (p : ℕ × ServerId). record { bucket = p.0; to = p.1 }) (zip buckets servers) ≡ moves_to buckets servers
moves_to-zip [] servers = refl
moves_to-zip (b ∷ buckets) [] = refl
moves_to-zip (b ∷ buckets) (s ∷ servers) =
    ap (λ (ms : List Move). record { bucket = b; to = s } ∷ ms) (moves_to-zip buckets servers)

-- the end of the loops
pub AreRooms-end : (active : List ServerId) (quotas rooms : List ℕ) (i : ℕ) → length active ≤ i
    → AreRooms active quotas rooms i → (s : ServerId) → room_in rooms s ≡ quota_of active quotas s
AreRooms-end active quotas rooms i h are s =
    let none : quota_of (drop i active) (drop i quotas) s ≡ 0 =
    at_drop_all (λ (xs : List ServerId). quota_of xs (drop i quotas) s) active i h
    in let e : room_in rooms s + quota_of (drop i active) (drop i quotas) s ≡ quota_of active quotas s = are.each s
    in omega arith

-- one more server was cleared
pub cleared-more : (servers : List ServerId) (i : ℕ) (d : ServerId) (rooms : List ℕ) → i < length servers
    → (get_or servers i d).0 < length rooms → (s : ServerId)
    → cleared (drop (i + 1) servers) (room_in (set rooms (get_or servers i d).0 0)) s
    ≡ cleared (drop i servers) (room_in rooms) s
cleared-more servers i d rooms h l s =
    elim (cases_server (get_or servers i d) s) [
      | inl same ↦
          let zero : room_in (set rooms (get_or servers i d).0 0) s ≡ 0 =
          ap (room_in (set rooms (get_or servers i d).0 0)) (sym same.1)
          ∙ get_or-set_same rooms (get_or servers i d).0 0 0 l
          in let now : cleared (drop (i + 1) servers) (room_in (set rooms (get_or servers i d).0 0)) s ≡ 0 =
          rw zero (none (is_among (drop (i + 1) servers) s))
          in let before : cond (same_server (get_or servers i d) s || is_among (drop (i + 1) servers) s) 0
          (room_in rooms s) ≡ 0
          = rw same.0 refl
          in now ∙ sym (first ∙ before)
      | inr other ↦
          let before : cond (same_server (get_or servers i d) s || is_among (drop (i + 1) servers) s) 0
          (room_in rooms s) ≡ cond (is_among (drop (i + 1) servers) s) 0 (room_in rooms s)
          = rw other.0 refl
          in ap (λ n. cond (is_among (drop (i + 1) servers) s) 0 n)
          (room_in-set_other rooms (get_or servers i d) s 0 other.1)
          ∙ sym (first ∙ before)
    ]
  where
    first : cleared (drop i servers) (room_in rooms) s
        ≡ cond (same_server (get_or servers i d) s || is_among (drop (i + 1) servers) s) 0 (room_in rooms s)
    first = ap (λ t. cond t 0 (room_in rooms s)) (at_drop_more (λ (xs : List ServerId). is_among xs s) servers i d h)

    none : (t : Bool) → cond {A = ℕ} t 0 0 ≡ 0
    none true = refl
    none false = refl

pub cleared-end : (servers : List ServerId) (i : ℕ) (room : ServerId → ℕ) → length servers ≤ i → (s : ServerId)
    → cleared (drop i servers) room s ≡ room s
cleared-end servers i room h s =
    ap (λ t. cond t 0 (room s)) (at_drop_all (λ (xs : List ServerId). is_among xs s) servers i h)

-- what was left to the active servers is cleared
pub all-cleared : (active : List ServerId) (quotas : List ℕ) (owner : List ServerId) (rooms lefts : List ℕ)
    → ((s : ServerId) → room_in rooms s ≡ quota_of active quotas s)
    → ((s : ServerId) → room_in lefts s ≡ left (room_in rooms) owner s) → (s : ServerId)
    → cleared active (room_in lefts) s ≡ 0
all-cleared active quotas owner rooms lefts r l s =
    elim (cases_Bool (is_among active s)) [
      | inl t ↦ rw t refl
      | inr f ↦
          let none : quota_of active quotas s ≡ 0 = quota_of-outside active quotas s f
          in let fewer : left (room_in rooms) owner s ≤ room_in rooms s = left-le (room_in rooms) owner s
          in let zero : room_in lefts s ≡ 0 = omega (arith, r s, l s)
          in rw f zero
    ]

-- the buckets that were given and the servers that take them are those of the rule
pub chosen : (owner active : List ServerId) (quotas rooms lefts buckets : List ℕ) (servers : List ServerId)
    → ((s : ServerId) → room_in rooms s ≡ quota_of active quotas s)
    → ((s : ServerId) → room_in lefts s ≡ left (room_in rooms) owner s)
    → buckets ≡ given (room_in rooms) 0 owner → servers ≡ takers (room_in lefts) active
    → map (λ (p : ℕ × ServerId). record { bucket = p.0; to = p.1 }) (zip buckets servers)
    ≡ rebalancing owner active quotas
chosen owner active quotas rooms lefts buckets servers r l b t =
    moves_to-zip buckets servers
    ∙ ap (λ (bs : List ℕ). moves_to bs servers) (b ∙ ap (λ f. given f 0 owner) room)
    ∙ ap (moves_to (given (quota_of active quotas) 0 owner)) (t ∙ ap (λ f. takers f active) lefts_are)
    ∙ sym (rebalancing-rooms owner active quotas)
  where
    room : room_in rooms ≡ quota_of active quotas
    room = λ i s. r s i

    lefts_are : room_in lefts ≡ left (quota_of active quotas) owner
    lefts_are = λ i s. (l s ∙ ap (λ f. left f owner s) (λ j x. r x j)) i
