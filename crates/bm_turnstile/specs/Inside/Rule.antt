-- Only the proofs of bodies use this: the rule of the tickets. Word 0 is the next ticket, word 1
-- the ticket being served, and the one slot contains the state.
use Rattle.std.specs.Prelude.{◌≡◌, ◌≢◌, ◌⊎◌, ℕ, zero, suc, ◌+◌, ◌^◌, ◌<◌, ◌≤◌, ◌==◌}
use Rattle.std.specs.Prelude.{Bool, true, false, cond, List, [], ◌∷◌, ◌++◌, length, Option, Some}
use mathlib.Core.Option.{some}
use mathlib.Core.Option as maybe
use lib.ListN.{get_elem?}
use Rattle.atomic_table.specs.Table.{State, Me, Step}
use Rattle.bm_turnstile.specs.declared.view.View.{View}
use Rattle.bm_turnstile.specs.declared.view.Old.{Old}
use Rattle.bm_turnstile.specs.declared.view.Stage.{Stage}
use Rattle.bm_turnstile.specs.declared.view.Stage.TheVariants.{Idle, Waiting, Served}
use Rattle.bm_turnstile.specs.Seen.{Covers, AllBelow}

-- f 0 + .. + f (n - 1)
abbrev pub sum_below : ℕ → (ℕ → ℕ) → ℕ
sum_below zero f = 0
sum_below (suc n) f = sum_below n f + f n

abbrev pub updated : {A : Type 0} → (ℕ → A) → ℕ → A → ℕ → A
updated f n x k = cond (k == n) x (f k)

-- the most turns of one seat
abbrev pub most : ℕ
most = 4294967295

abbrev pub IsServed : {E : Type 0} → Stage E → Type 0
IsServed (Served ticket note) = Unit {0}
IsServed _ = ⊥

-- THE RULE

module _ {E : Type 0} (seat_of : E → ℕ) where
  -- the entries are the same, or have one more, under the number n
  abbrev pub Grows : ℕ → List E → List E → Type 0
  Grows n log log' = (log' ≡ log) ⊎ ((e : E) × (log' ≡ log ++ e ∷ []) × (seat_of e ≡ n))

  -- the numbers of seats that were given back are no longer used, and what they had seen covers the
  -- entries
  abbrev pub OldsFit : (ℕ → Bool) → List E → List (Old E) → Type 0
  OldsFit dead log [] = Unit {0}
  OldsFit dead log (o ∷ os) =
      (dead o.number ≡ true) × Covers seat_of o.number o.seen log × OldsFit dead log os

  -- what holds of the seat j at each stage
  module _ (serving next holder : ℕ) (owner : ℕ → ℕ) (log : List E) (j : ℕ) where
    abbrev pub Stands : Stage E → Type 0
    Stands Idle = Unit {0}
    Stands (Waiting n) = (serving ≤ n) × (n < next) × (owner n ≡ j)
    Stands (Served n note) =
        (n ≡ serving) × (n < next) × (owner n ≡ j) × (holder ≡ suc j) × (note ≡ log)

  -- what the seat j knows
  pub record Fits {X : Type 0} (about : X) (serving next given holder : ℕ) (counts owner : ℕ → ℕ)
      (dead : ℕ → Bool) (log : List E) (j : ℕ) (v : View X E) : Type 0 where
    pub first : j ≡ 0 → (v.spent ≡ false) × (v.given ≡ given)
    pub live : v.spent ≡ false
        → (v.number ≡ j) × (v.fixed ≡ Some about) × (dead j ≡ false) × Covers seat_of j v.seen log
    pub turns : v.spent ≡ false → v.olds ≡ [] → v.turns ≡ counts j
    pub idle : (v.spent ≡ true) ⊎ (v.olds ≢ []) → v.stage ≡ Idle
    pub stage : Stands serving next holder owner log j v.stage
    pub olds : OldsFit dead log v.olds

module _ {T X E : Type 0} (entries : T → List E) (fixed : T → X) (replays : X → List E → Type 0)
    (seat_of : E → ℕ) where
  pub record Kept (about : X) (s : State (Option T) (View X E)) : Type 0 where
    pub next : ℕ
    pub serving : ℕ
    -- how many numbers were given; a number is the seat's place among the views
    pub given : ℕ
    -- one more than the seat that has the state, or 0
    pub holder : ℕ
    -- how many turns were made under each number
    pub counts : ℕ → ℕ
    -- which seat drew a ticket
    pub owner : ℕ → ℕ
    -- which seats were given back
    pub dead : ℕ → Bool
    -- the entries; while a seat has the state, those that it found
    pub log : List E
    pub words : s.words ≡ next ∷ serving ∷ []
    pub order : serving ≤ next
    pub sum : next ≡ sum_below given counts
    pub counted : (n : ℕ) → counts n ≤ most
    pub few : given ≤ 65535
    pub made : length s.views ≡ given
    pub alive : (k : ℕ) → given ≤ k → dead k ≡ false
    pub replay : replays about log
    pub numbered : AllBelow seat_of given log
    pub short : length log ≤ serving
    pub each : (j : ℕ) (v : View X E) → get_elem? s.views j ≡ some v
        → Fits seat_of about serving next given holder counts owner dead log j v
    pub home : holder ≡ 0
        → (t : T) × (s.homes ≡ some (Some t) ∷ []) × (entries t ≡ log) × (fixed t ≡ about)
    pub held : (i : ℕ) → holder ≡ suc i
        → (s.homes ≡ maybe.none ∷ [])
        × (v : View X E) × (get_elem? s.views i ≡ some v) × IsServed v.stage

  -- WHAT EACH STEP SHOWS ITS SEAT

  -- what a served seat finds
  pub record Finds (v : View X E) (ticket : ℕ) (t : T) : Type 0 where
    pub about : v.fixed ≡ Some (fixed t)
    pub covers : Covers seat_of v.number v.seen (entries t)
    pub replay : replays (fixed t) (entries t)
    pub short : length (entries t) ≤ ticket

  -- a seat whose ticket is served takes the state
  abbrev pub Takes : Me (Option T) (View X E) → ℕ → Me (Option T) (View X E) → Type 0
  Takes me ticket me' =
      (t : T) × Finds me.0 ticket t
      × (me' ≡ (record me.0 { stage = Served ticket (entries t) }, (0, Some t) ∷ me.1))

  -- if its ticket is served the seat takes the state; otherwise nothing changes
  abbrev pub Looks : Step (Option T) → Me (Option T) (View X E) → ℕ → Me (Option T) (View X E)
      → Type 0
  Looks step me serving me' = (ticket : ℕ) → me.0.stage ≡ Waiting ticket
      → (serving ≡ ticket → Takes me ticket me') × (serving ≢ ticket → me' ≡ me)

  -- what holds of the state that a served seat gives back
  pub record Hands (v : View X E) (ticket : ℕ) (t : T) : Type 0 where
    pub note : List E
    pub stage : v.stage ≡ Served ticket note
    pub about : v.fixed ≡ Some (fixed t)
    pub grows : Grows seat_of v.number note (entries t)
    pub replay : replays (fixed t) (entries t)

module _ {X E : Type 0} where
  abbrev pub has_drawn : View X E → ℕ → View X E
  has_drawn v ticket = record v { turns = v.turns + 1; stage = Waiting ticket }

  -- the seat has seen what the state's book has
  abbrev pub has_handed_on : View X E → List E → View X E
  has_handed_on v log = record v { stage = Idle; seen = log }

module _ {T X E : Type 0} where
  -- a ticket was drawn, and tickets stay below 2^48
  abbrev pub Draws : Step (Option T) → Me (Option T) (View X E) → ℕ → Me (Option T) (View X E)
      → Type 0
  Draws step me ticket me' = (me' ≡ (has_drawn me.0 ticket, me.1)) × (ticket + 1 < 2 ^ 48)

  -- the state went back
  abbrev pub Advances : (T → List E) → Step (Option T) → Me (Option T) (View X E) → ℕ
      → Me (Option T) (View X E) → Type 0
  Advances entries step me served me' =
      (t : T) → me.1 ≡ (0, Some t) ∷ [] → me' ≡ (has_handed_on me.0 (entries t), [])

-- THE END

-- the olds have the numbers from m on, in order
abbrev pub NumberedFrom : {E : Type 0} → ℕ → List (Old E) → Type 0
NumberedFrom m [] = Unit {0}
NumberedFrom m (o ∷ os) = (o.number ≡ m) × NumberedFrom (suc m) os

module _ {E : Type 0} (seat_of : E → ℕ) where
  abbrev pub OldsCover : List E → List (Old E) → Type 0
  OldsCover log [] = Unit {0}
  OldsCover log (o ∷ os) = Covers seat_of o.number o.seen log × OldsCover log os

module _ {T X E : Type 0} (entries : T → List E) (fixed : T → X) (replays : X → List E → Type 0)
    (seat_of : E → ℕ) where
  -- what the first seat knows of the state, once all others were given back to it
  pub record Closes (v : View X E) (t : T) : Type 0 where
    pub about : v.fixed ≡ Some (fixed t)
    pub replay : replays (fixed t) (entries t)
    pub below : AllBelow seat_of v.given (entries t)
    pub mine : Covers seat_of 0 v.seen (entries t)
    pub olds : OldsCover seat_of (entries t) v.olds
