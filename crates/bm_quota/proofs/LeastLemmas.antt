-- No list of moves that reaches the quotas is shorter.
use Rattle.std.proofs.Common.{◌≡◌, if◌then◌else◌, ℕ, suc, ◌+◌, ◌-◌, ◌<◌, ◌≤◌, true, false, eqb, ltb, List, [], ◌∷◌}
use Rattle.std.proofs.Common.{length, inl, inr, refl, ap, arith, unwrap_or}
use Rattle.std.proofs.lemmas.Bool.{cases_eq, ne_eqb, lt-ltb}
use Rattle.bm_base.specs.declared.ids.ServerId.{ServerId}
use Rattle.bm_quota.proofs.RoomLemmas.{cases_room, cases_server, owned-cons, owners_after-later, same_server-refl}
use Rattle.bm_quota.specs.Rebalancing.{owned, owners_after}
use Rattle.bm_quota.specs.Inside.Rooms.{given, kept}
use Rattle.bm_table.specs.Tables.{same_server, target}
use Rattle.bm_table.specs.declared.plan.Move.{Move}

-- how many buckets are given
abbrev pub gives : (ServerId → ℕ) → List ServerId → ℕ
gives room [] = 0
gives room (o ∷ owners) = if ltb 0 (room o) then gives (kept room o) owners else suc (gives room owners)

pub length-given : (room : ServerId → ℕ) (b : ℕ) (owners : List ServerId)
    → length (given room b owners) ≡ gives room owners
length-given room b [] = refl
length-given room b (o ∷ owners) =
    elim (cases_room (room o)) [
      | inl some ↦ rw some.0 (length-given (kept room o) (b + 1) owners)
      | inr none ↦ rw none.0 (ap suc (length-given room (b + 1) owners))
    ]

kept_comm : (room : ServerId → ℕ) (a b : ServerId) → kept (kept room a) b ≡ kept (kept room b) a
kept_comm room a b = λ i s. at s i
  where
    at : (s : ServerId) → kept (kept room a) b s ≡ kept (kept room b) a s
    at s =
        elim (cases_server a s) [
          | inl x ↦ elim (cases_server b s) [
            | inl y ↦ rw (x.0, y.0) refl
            | inr y ↦ rw (x.0, y.0) refl
          ]
          | inr x ↦ elim (cases_server b s) [
            | inl y ↦ rw (x.0, y.0) refl
            | inr y ↦ rw (x.0, y.0) refl
          ]
        ]

kept_at : (room : ServerId → ℕ) (a s : ServerId) → same_server a s ≡ true → kept room a s ≡ room s - 1
kept_at room a s e = rw e refl

kept_beside : (room : ServerId → ℕ) (a s : ServerId) → same_server a s ≡ false → kept room a s ≡ room s
kept_beside room a s e = rw e refl

-- where there is none, keeping changes nothing
kept_none : (room : ServerId → ℕ) (a : ServerId) → room a ≡ 0 → kept room a ≡ room
kept_none room a h = λ i s. at s i
  where
    at : (s : ServerId) → kept room a s ≡ room s
    at s =
        elim (cases_server a s) [
          | inl x ↦ let h' : room s ≡ 0 = rw x.1 at h in rw x.0 (omega arith)
          | inr x ↦ rw x.0 refl
        ]

-- one place less makes at most one given bucket more
pub gives-kept : (room : ServerId → ℕ) (o : ServerId) (owners : List ServerId)
    → gives (kept room o) owners ≤ suc (gives room owners)
gives-kept room o [] = omega arith
gives-kept room o (x ∷ owners) =
    elim (cases_room (kept room o x)) [
      | inl some ↦
          let here : 0 < room x = elim (cases_server o x) [
            | inl y ↦ let e : kept room o x ≡ room x - 1 = kept_at room o x y.0 in omega arith
            | inr y ↦ let e : kept room o x ≡ room x = kept_beside room o x y.0 in omega arith
          ]
          in let t : ltb 0 (room x) ≡ true = lt-ltb 0 (room x) here
          in let old : gives (kept (kept room x) o) owners ≤ suc (gives (kept room x) owners) =
          gives-kept (kept room x) o owners
          in let old' : gives (kept (kept room o) x) owners ≤ suc (gives (kept room x) owners) =
          rw (kept_comm room x o) at old
          in rw (some.0, t) old'
      | inr none ↦ elim (cases_room (room x)) [
        | inl was ↦ elim (cases_server o x) [
          | inl y ↦ rw (none.0, was.0, y.1) (omega arith)
          | inr y ↦ let e : kept room o x ≡ room x =
              kept_beside room o x y.0 in absurd (omega (arith, none.1, was.1, e))
        ]
        | inr also ↦
            let old : gives (kept room o) owners ≤ suc (gives room owners) = gives-kept room o owners
            in rw (none.0, also.0) (omega arith)
      ]
    ]

-- at how many places two lists of owners differ
abbrev pub differ : List ServerId → List ServerId → ℕ
differ [] others = 0
differ (o ∷ owners) [] = 0
differ (o ∷ owners) (p ∷ others) = if same_server o p then differ owners others else suc (differ owners others)

present : (room : ServerId → ℕ) (p : ServerId) (others : List ServerId) → owned (p ∷ others) p ≤ room p → 0 < room p
present room p others h =
    let t : same_server p p ≡ true = same_server-refl p in let h' : suc (owned others p) ≤ room p =
    rw t at h in omega arith

without : (room : ServerId → ℕ) (p : ServerId) (others : List ServerId) (s : ServerId) → owned (p ∷ others) s ≤ room s
    → owned others s ≤ room s
without room p others s h = omega (arith, owned-cons p others s)

fewer : (room : ServerId → ℕ) (o p : ServerId) (others : List ServerId) → o ≡ p → (s : ServerId)
    → owned (p ∷ others) s ≤ room s → owned others s ≤ kept room o s
fewer room o p others e s h =
    elim (cases_server o s) [
      | inl same ↦
          let t : same_server p s ≡ true = rw e at same.0
          in let h' : suc (owned others s) ≤ room s = rw t at h
          in rw same.0 (omega arith)
      | inr other ↦ rw other.0 (without room p others s h)
    ]

-- owners for which there is room differ at least as often as buckets are given
pub gives-le-differ : (room : ServerId → ℕ) (owners others : List ServerId) → length others ≡ length owners
    → ((s : ServerId) → owned others s ≤ room s)
    → gives room owners ≤ differ owners others
gives-le-differ room [] others h fits = omega arith
gives-le-differ room (o ∷ owners) [] h fits = absurd (omega arith)
gives-le-differ room (o ∷ owners) (p ∷ others) h fits =
    elim (cases_server o p) [
      | inl same ↦
          let there : 0 < room o = rw (← same.1) at (present room p others (fits p))
          in let t : ltb 0 (room o) ≡ true = lt-ltb 0 (room o) there
          in let old : gives (kept room o) owners ≤ differ owners others =
          gives-le-differ (kept room o) owners others (omega arith) (λ s. fewer room o p others same.1 s (fits s))
          in rw (t, same.0) old
      | inr other ↦ elim (cases_room (room o)) [
        | inl some ↦
            let step : gives (kept room o) owners ≤ suc (gives room owners) = gives-kept room o owners
            in let old : gives room owners ≤ differ owners others =
            gives-le-differ room owners others (omega arith) (λ s. without room p others s (fits s))
            in rw (some.0, other.0) (omega arith)
        | inr none ↦
            let old : gives room owners ≤ differ owners others =
            gives-le-differ room owners others (omega arith) (λ s. without room p others s (fits s))
            in rw (none.0, other.0) (omega arith)
      ]
    ]

-- the owners after no moves are the same
differ-same : (owners : List ServerId) (b : ℕ) → differ owners (owners_after [] b owners) ≡ 0
differ-same [] b = refl
differ-same (o ∷ owners) b = let t : same_server o o ≡ true = same_server-refl o in rw t (differ-same owners (b + 1))

differ-cons-le : (o p : ServerId) (owners others : List ServerId)
    → (differ owners others ≤ differ (o ∷ owners) (p ∷ others))
    × (differ (o ∷ owners) (p ∷ others) ≤ suc (differ owners others))
differ-cons-le o p owners others =
    elim (cases_server o p) [
      | inl same ↦ rw same.0 (omega arith, omega arith)
      | inr other ↦ rw other.0 (omega arith, omega arith)
    ]

differ-head : (o p : ServerId) (owners xs ys : List ServerId) → differ owners xs ≤ suc (differ owners ys)
    → differ (o ∷ owners) (p ∷ xs) ≤ suc (differ (o ∷ owners) (p ∷ ys))
differ-head o p owners xs ys h =
    elim (cases_server o p) [
      | inl same ↦ rw same.0 h
      | inr other ↦ rw other.0 (omega arith)
    ]

-- one move more changes at most one owner more
differ-more : (m : Move) (moves : List Move) (b : ℕ) (owners : List ServerId)
    → differ owners (owners_after (m ∷ moves) b owners) ≤ suc (differ owners (owners_after moves b owners))
differ-more m moves b [] = omega arith
differ-more m moves b (o ∷ owners) =
    elim (cases_eq m.bucket b) [
      | inl here ↦
          let rest : owners_after (m ∷ moves) (b + 1) owners ≡ owners_after moves (b + 1) owners =
          owners_after-later (b + 1) m moves owners (omega arith)
          in let above : differ (o ∷ owners) (unwrap_or (target (m ∷ moves) b) o ∷ owners_after moves (b + 1) owners)
          ≤ suc (differ owners (owners_after moves (b + 1) owners))
          = (differ-cons-le o (unwrap_or (target (m ∷ moves) b) o) owners (owners_after moves (b + 1) owners)).1
          in let below : differ owners (owners_after moves (b + 1) owners) ≤ differ (o ∷ owners)
          (unwrap_or (target moves b) o ∷ owners_after moves (b + 1) owners)
          = (differ-cons-le o (unwrap_or (target moves b) o) owners (owners_after moves (b + 1) owners)).0
          in let same : differ (o ∷ owners)
          (unwrap_or (target (m ∷ moves) b) o ∷ owners_after (m ∷ moves) (b + 1) owners)
          ≡ differ (o ∷ owners) (unwrap_or (target (m ∷ moves) b) o ∷ owners_after moves (b + 1) owners)
          = ap (λ (xs : List ServerId). differ (o ∷ owners) (unwrap_or (target (m ∷ moves) b) o ∷ xs)) rest
          in omega (arith, above, below, same)
      | inr elsewhere ↦
          let t : eqb m.bucket b ≡ false = ne_eqb _ _ elsewhere
          in rw t (differ-head o (unwrap_or (target moves b) o) owners (owners_after (m ∷ moves) (b + 1) owners)
          (owners_after moves (b + 1) owners) (differ-more m moves (b + 1) owners))
    ]

pub differ-le-length : (moves : List Move) (b : ℕ) (owners : List ServerId)
    → differ owners (owners_after moves b owners) ≤ length moves
differ-le-length [] b owners = omega (arith, differ-same owners b)
differ-le-length (m ∷ moves) b owners = omega (arith, differ-more m moves b owners, differ-le-length moves b owners)

length-owners_after : (moves : List Move) (b : ℕ) (owners : List ServerId)
    → length (owners_after moves b owners) ≡ length owners
length-owners_after moves b [] = refl
length-owners_after moves b (o ∷ owners) = ap suc (length-owners_after moves (b + 1) owners)

-- moves after which each server has room for what it owns are at least as many as the given buckets
pub gives-le-length : (room : ServerId → ℕ) (owners : List ServerId) (moves : List Move)
    → ((s : ServerId) → owned (owners_after moves 0 owners) s ≤ room s)
    → gives room owners ≤ length moves
gives-le-length room owners moves fits =
    omega (
      arith,
      gives-le-differ room owners (owners_after moves 0 owners) (length-owners_after moves 0 owners) fits,
      differ-le-length moves 0 owners,
    )
