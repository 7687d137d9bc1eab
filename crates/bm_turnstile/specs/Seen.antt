-- What a seat has seen of a turnstile's book, and what a turn adds to it (docs/DEFINITIONS.md).
use Rattle.std.specs.Prelude.{◌≡◌, ℕ, ◌<◌, ◌==◌, cond, List, [], ◌∷◌, ◌++◌, Some}
use Rattle.bm_turnstile.specs.Sittings.{Sitting}

-- one more entry, which has this seat's number and this call
abbrev pub Adds : {E C : Type 0} → (E → ℕ) → (E → C) → ℕ → C → List E → List E → Type 0
Adds {E = E} seat_of call_of n call old new =
    (e : E) × (new ≡ old ++ e ∷ []) × (seat_of e ≡ n) × (call_of e ≡ call)

module _ {E : Type 0} (seat_of : E → ℕ) where
  -- the entries under the number n
  abbrev pub own : ℕ → List E → List E
  own n [] = []
  own n (e ∷ es) = cond (seat_of e == n) (e ∷ own n es) (own n es)

  -- seen is a prefix of the entries, and has all that are under the number n
  abbrev pub Covers : ℕ → List E → List E → Type 0
  Covers n seen entries = (rest : List E) × (entries ≡ seen ++ rest) × (own n rest ≡ [])

  -- each entry is under a number below n
  abbrev pub AllBelow : ℕ → List E → Type 0
  AllBelow n [] = Unit {0}
  AllBelow n (e ∷ es) = (seat_of e < n) × AllBelow n es

  -- more was seen, and none of it is the seat's own
  pub record SeesMore {X : Type 0} (old new : Sitting X E) : Type 0 where
    pub between : List E
    pub seen : new.seen ≡ old.seen ++ between
    pub quiet : own old.number between ≡ []

  -- the seat has seen what it had seen before, then entries of others, and then one of its own with
  -- this call; the reply is the one after the entries before that
  pub record Turned {X C R : Type 0} (call_of : E → C) (reply_of : X → List E → ℕ → C → R)
      (old new : Sitting X E) (call : C) (reply : R) : Type 0 where
    pub about : X
    pub between : List E
    pub entry : E
    pub fixed : old.fixed ≡ Some about
    pub seen : new.seen ≡ (old.seen ++ between) ++ entry ∷ []
    pub quiet : own old.number between ≡ []
    pub under : seat_of entry ≡ old.number
    pub called : call_of entry ≡ call
    pub replied : reply ≡ reply_of about (old.seen ++ between) old.number call
