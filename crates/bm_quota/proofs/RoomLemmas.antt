-- What the servers keep and give, and what follows of the owners afterwards.
use Rattle.std.proofs.Common.{◌≡◌, ◌≢◌, ◌⊎◌, if◌then◌else◌, ℕ, zero, suc, ◌+◌, ◌-◌, ◌<◌, ◌≤◌, Bool, true, false, cond}
use Rattle.std.proofs.Common.{eqb, ltb, List, [], ◌∷◌, Some, None, length, inl, inr, refl, ap, sym, ◌∙◌, arith}
use Rattle.std.proofs.Common.{unwrap_or}
use Rattle.std.proofs.lemmas.Bool.{cases_Bool, eq-eqb, ne_eqb, lt-ltb}
use Rattle.bm_base.specs.declared.ids.ServerId.{ServerId}
use Rattle.bm_quota.specs.Rebalancing.{moves_to, owned, owners_after, takers}
use Rattle.bm_quota.specs.Inside.Rooms.{given, kept, left}
use Rattle.bm_table.proofs.Tables.{same_server-true, eq-same_server}
use Rattle.bm_table.specs.Tables.{same_server, target}
use Rattle.bm_table.specs.declared.plan.Move.{Move}

pub same_server-refl : (s : ServerId) → same_server s s ≡ true
same_server-refl s = eq-eqb s.0 s.0 refl

-- either they are the same, or not
pub cases_server : (a b : ServerId) → ((same_server a b ≡ true) × (a ≡ b)) ⊎ ((same_server a b ≡ false) × (a ≢ b))
cases_server a b =
    elim (cases_Bool (same_server a b)) [
      | inl t ↦ inl (t, same_server-true a b t)
      | inr f ↦ inr (f, λ e. both f (eq-same_server a b e))
    ]
  where
    both : {t : Bool} → t ≡ false → t ≡ true → ⊥
    both f t = absurd (cc (sym f ∙ t))

-- room or none
pub cases_room : (n : ℕ) → ((ltb 0 n ≡ true) × (0 < n)) ⊎ ((ltb 0 n ≡ false) × (n ≡ 0))
cases_room zero = inr (refl, refl)
cases_room (suc n) = inl (lt-ltb 0 (suc n) (omega arith), omega arith)

-- the sum over a list of servers
abbrev pub total : (ServerId → ℕ) → List ServerId → ℕ
total f [] = 0
total f (s ∷ servers) = f s + total f servers

-- room is never made
pub left-le : (room : ServerId → ℕ) (owners : List ServerId) (s : ServerId) → left room owners s ≤ room s
left-le room [] s = omega arith
left-le room (o ∷ owners) s =
    elim (cases_room (room o)) [
      | inl some ↦
          let h : left (kept room o) owners s ≤ kept room o s = left-le (kept room o) owners s
          in rw some.0 (elim (cases_server o s) [
            | inl same ↦ let h' : left (kept room o) owners s ≤ room s - 1 = rw same.0 at h in omega arith
            | inr other ↦ let h' : left (kept room o) owners s ≤ room s = rw other.0 at h in omega arith
          ])
      | inr none ↦ rw none.0 (left-le room owners s)
    ]

-- the owners after each given bucket went to the next of the takers
abbrev pub handed : (ServerId → ℕ) → List ServerId → List ServerId → List ServerId
handed room [] takers = []
handed room (o ∷ owners) [] = if ltb 0 (room o) then o ∷ handed (kept room o) owners [] else o ∷ handed room owners []
handed room (o ∷ owners) (t ∷ takers) =
    if ltb 0 (room o) then o ∷ handed (kept room o) owners (t ∷ takers) else t ∷ handed room owners takers

pub owned-cons : (t : ServerId) (owners : List ServerId) (s : ServerId)
    → owned (t ∷ owners) s ≡ owned (t ∷ []) s + owned owners s
owned-cons t owners s =
    elim (cases_server t s) [
      | inl same ↦ rw same.0 (omega arith)
      | inr other ↦ rw other.0 (omega arith)
    ]

-- what a server keeps and what it takes
pub owned-handed : (room : ServerId → ℕ) (b : ℕ) (owners takers : List ServerId) (s : ServerId)
    → length (given room b owners) ≡ length takers
    → owned (handed room owners takers) s + left room owners s ≡ room s + owned takers s
owned-handed room b [] [] s h = omega arith
owned-handed room b [] (t ∷ takers) s h = absurd (omega arith)
owned-handed room b (o ∷ owners) [] s h =
    elim (cases_room (room o)) [
      | inl some ↦
          let h' : length (given (kept room o) (b + 1) owners) ≡ 0 = rw some.0 at h
          in let old : owned (handed (kept room o) owners []) s + left (kept room o) owners s ≡ kept room o s + 0 =
          owned-handed (kept room o) (b + 1) owners [] s h'
          in rw some.0 (elim (cases_server o s) [
            | inl same ↦
                let old' : owned (handed (kept room o) owners []) s + left (kept room o) owners s ≡ room s - 1 + 0 =
                rw same.0 at old
                in let some' : 0 < room s = rw same.1 at some.1
                in rw same.0 (omega arith)
            | inr other ↦
                let old' : owned (handed (kept room o) owners []) s + left (kept room o) owners s ≡ room s + 0 =
                rw other.0 at old
                in rw other.0 (omega arith)
          ])
      | inr none ↦ let h' : suc (length (given room (b + 1) owners)) ≡ 0 = rw none.0 at h in absurd (omega arith)
    ]
owned-handed room b (o ∷ owners) (t ∷ takers) s h =
    elim (cases_room (room o)) [
      | inl some ↦
          let h' : length (given (kept room o) (b + 1) owners) ≡ suc (length takers) = rw some.0 at h
          in let old : owned (handed (kept room o) owners (t ∷ takers)) s + left (kept room o) owners s
          ≡ kept room o s + owned (t ∷ takers) s
          = owned-handed (kept room o) (b + 1) owners (t ∷ takers) s h'
          in rw some.0 (elim (cases_server o s) [
            | inl same ↦
                let old' : owned (handed (kept room o) owners (t ∷ takers)) s + left (kept room o) owners s
                ≡ room s - 1 + owned (t ∷ takers) s = rw same.0 at old
                in let some' : 0 < room s = rw same.1 at some.1
                in rw same.0 (omega arith)
            | inr other ↦
                let old' : owned (handed (kept room o) owners (t ∷ takers)) s + left (kept room o) owners s
                ≡ room s + owned (t ∷ takers) s = rw other.0 at old
                in rw other.0 (omega arith)
          ])
      | inr none ↦
          let h' : suc (length (given room (b + 1) owners)) ≡ suc (length takers) = rw none.0 at h
          in let old : owned (handed room owners takers) s + left room owners s ≡ room s + owned takers s =
          owned-handed room (b + 1) owners takers s (omega arith)
          in rw none.0 (omega (arith, old, owned-cons t (handed room owners takers) s, owned-cons t takers s))
    ]

-- the buckets of moves to takers are the given ones
target-later : (b : ℕ) (m : Move) (moves : List Move) → m.bucket < b → target (m ∷ moves) b ≡ target moves b
target-later b m moves h = let t : eqb m.bucket b ≡ false = ne_eqb _ _ (λ e. omega arith) in rw t refl

pub owners_after-later : (b : ℕ) (m : Move) (moves : List Move) (owners : List ServerId) → m.bucket < b
    → owners_after (m ∷ moves) b owners ≡ owners_after moves b owners
owners_after-later b m moves [] h = refl
owners_after-later b m moves (o ∷ owners) h =
    let rest : owners_after (m ∷ moves) (b + 1) owners ≡ owners_after moves (b + 1) owners =
    owners_after-later (b + 1) m moves owners (omega arith)
    in let here : target (m ∷ moves) b ≡ target moves b = target-later b m moves h
    in ap (λ x. unwrap_or x o ∷ owners_after (m ∷ moves) (b + 1) owners) here
    ∙ ap (λ (xs : List ServerId). unwrap_or (target moves b) o ∷ xs) rest

-- given buckets are not below b
pub given-not_below : (room : ServerId → ℕ) (b low : ℕ) (owners takers : List ServerId) → low < b
    → target (moves_to (given room b owners) takers) low ≡ None
given-not_below room b low [] takers h = refl
given-not_below room b low (o ∷ owners) takers h =
    elim (cases_room (room o)) [
      | inl some ↦ rw some.0 (given-not_below (kept room o) (b + 1) low owners takers (omega arith))
      | inr none ↦ rw none.0 (one takers (λ ts. given-not_below room (b + 1) low owners ts (omega arith)))
    ]
  where
    one : (ts : List ServerId)
        → ((rest : List ServerId) → target (moves_to (given room (b + 1) owners) rest) low ≡ None)
        → target (moves_to (b ∷ given room (b + 1) owners) ts) low ≡ None
    one [] old = refl
    one (t ∷ ts) old =
        let e : eqb b low ≡ false = ne_eqb _ _ (λ same. omega arith)
        in rw e (old ts)

given-kept : (room : ServerId → ℕ) (b : ℕ) (o : ServerId) (owners : List ServerId) → ltb 0 (room o) ≡ true
    → given room b (o ∷ owners) ≡ given (kept room o) (b + 1) owners
given-kept room b o owners t = rw t refl

given-given : (room : ServerId → ℕ) (b : ℕ) (o : ServerId) (owners : List ServerId) → ltb 0 (room o) ≡ false
    → given room b (o ∷ owners) ≡ b ∷ given room (b + 1) owners
given-given room b o owners t = rw t refl

handed-kept : (room : ServerId → ℕ) (o : ServerId) (owners ts : List ServerId) → ltb 0 (room o) ≡ true
    → handed room (o ∷ owners) ts ≡ o ∷ handed (kept room o) owners ts
handed-kept room o owners [] t = rw t refl
handed-kept room o owners (x ∷ ts) t = rw t refl

-- one bucket more that its server keeps
after_kept : (room : ServerId → ℕ) (b : ℕ) (o : ServerId) (owners ts : List ServerId) → ltb 0 (room o) ≡ true
    → owners_after (moves_to (given (kept room o) (b + 1) owners) ts) (b + 1) owners ≡ handed (kept room o) owners ts
    → owners_after (moves_to (given room b (o ∷ owners)) ts) b (o ∷ owners) ≡ handed room (o ∷ owners) ts
after_kept room b o owners ts t rest =
    let none_here : target (moves_to (given (kept room o) (b + 1) owners) ts) b ≡ None =
    given-not_below (kept room o) (b + 1) b owners ts (omega arith)
    in ap (λ (gs : List ℕ). owners_after (moves_to gs ts) b (o ∷ owners)) (given-kept room b o owners t)
    ∙ ap (λ x. unwrap_or x o ∷ owners_after (moves_to (given (kept room o) (b + 1) owners) ts) (b + 1) owners) none_here
    ∙ ap (λ (xs : List ServerId). o ∷ xs) rest
    ∙ sym (handed-kept room o owners ts t)

pub owners_after-handed : (room : ServerId → ℕ) (b : ℕ) (owners ts : List ServerId)
    → length (given room b owners) ≡ length ts
    → owners_after (moves_to (given room b owners) ts) b owners ≡ handed room owners ts
owners_after-handed room b [] ts h = refl
owners_after-handed room b (o ∷ owners) [] h =
    elim (cases_room (room o)) [
      | inl some ↦
          let h' : length (given (kept room o) (b + 1) owners) ≡ 0 = rw some.0 at h
          in after_kept room b o owners [] some.0 (owners_after-handed (kept room o) (b + 1) owners [] h')
      | inr none ↦ let h' : suc (length (given room (b + 1) owners)) ≡ 0 = rw none.0 at h in absurd (omega arith)
    ]
owners_after-handed room b (o ∷ owners) (t ∷ ts) h =
    elim (cases_room (room o)) [
      | inl some ↦
          let h' : length (given (kept room o) (b + 1) owners) ≡ suc (length ts) = rw some.0 at h
          in after_kept room b o owners (t ∷ ts) some.0 (owners_after-handed (kept room o) (b + 1) owners (t ∷ ts) h')
      | inr none ↦
          let h' : suc (length (given room (b + 1) owners)) ≡ suc (length ts) = rw none.0 at h
          in let here : eqb b b ≡ true = eq-eqb b b refl
          in let later : owners_after (record { bucket = b; to = t } ∷ moves_to (given room (b + 1) owners) ts) (b + 1)
          owners ≡ owners_after (moves_to (given room (b + 1) owners) ts) (b + 1) owners
          = owners_after-later (b + 1) (record { bucket = b; to = t }) (moves_to (given room (b + 1) owners) ts) owners
          (omega arith)
          in let rest : owners_after (moves_to (given room (b + 1) owners) ts) (b + 1) owners ≡ handed room owners ts =
          owners_after-handed room (b + 1) owners ts (omega arith)
          in let last : handed room (o ∷ owners) (t ∷ ts) ≡ t ∷ handed room owners ts = rw none.0 refl
          in ap (λ (gs : List ℕ). owners_after (moves_to gs (t ∷ ts)) b (o ∷ owners))
          (given-given room b o owners none.0)
          ∙ ap (λ x. unwrap_or (cond x (Some t) (target (moves_to (given room (b + 1) owners) ts) b)) o ∷ owners_after
          (record { bucket = b; to = t } ∷ moves_to (given room (b + 1) owners) ts) (b + 1) owners) here
          ∙ ap (λ (xs : List ServerId). t ∷ xs) (later ∙ rest)
          ∙ sym last
    ]
