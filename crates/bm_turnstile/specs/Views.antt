-- Only the proofs of bodies use this: what a place's view is after each step, and seats in lists.
use Rattle.std.specs.Prelude.{◌≡◌, ℕ, suc, ◌+◌, true, false, List, [], ◌∷◌, Option, Some, None}
use Rattle.atomic_table.specs.Seated.{TableId}
use Rattle.atomic_table.specs.Table.{Me}
use Rattle.bm_turnstile.specs.declared.view.View.{View}
use Rattle.bm_turnstile.specs.declared.view.Old.{Old}
use Rattle.bm_turnstile.specs.declared.view.Stage.TheVariants.{Idle}
use Rattle.bm_turnstile.specs.Seen.{Covers}
use Rattle.bm_turnstile.specs.Sittings.{Sitting}

-- VIEWS

module _ {X E : Type 0} where
  abbrev pub sitting : TableId → View X E → Sitting X E
  sitting table v = record {
    table = table;
    number = v.number;
    given = v.given;
    fixed = v.fixed;
    turns = v.turns;
    seen = v.seen;
  }

  -- the first seat, which is alone
  abbrev pub first_view : X → View X E
  first_view about = record {
    spent = false;
    number = 0;
    turns = 0;
    given = 1;
    fixed = Some about;
    seen = [];
    stage = Idle;
    olds = [];
  }

  -- the first seat gives one more number
  abbrev pub gave : View X E → View X E
  gave v = record v { given = v.given + 1 }

  -- the seat of that number
  abbrev pub new_view : View X E → View X E
  new_view v = record {
    spent = false;
    number = v.given;
    turns = 0;
    given = 0;
    fixed = v.fixed;
    seen = [];
    stage = Idle;
    olds = [];
  }

  -- the first seat takes over what the seat w has seen
  abbrev pub joined : View X E → View X E → View X E
  joined v w = record v { olds = record { number = w.number; seen = w.seen } ∷ v.olds }

  abbrev pub spent_view : View X E
  spent_view = record {
    spent = true;
    number = 0;
    turns = 0;
    given = 0;
    fixed = None;
    seen = [];
    stage = Idle;
    olds = [];
  }

  -- a seat that has no ticket
  pub record IsIdle (v : View X E) : Type 0 where
    pub live : v.spent ≡ false
    pub stage : v.stage ≡ Idle

  -- what a turn leaves of a seat
  pub record IsSameSeat (v w : View X E) : Type 0 where
    pub number : w.number ≡ v.number
    pub fixed : w.fixed ≡ v.fixed
    pub given : w.given ≡ v.given
    pub turns : w.turns ≡ v.turns + 1

-- a place between two turns
pub record IsResting {T X E : Type 0} (me : Me (Option T) (View X E)) (number : ℕ) : Type 0 where
  pub live : me.0.spent ≡ false
  pub numbered : me.0.number ≡ number
  pub stage : me.0.stage ≡ Idle
  pub alone : me.0.olds ≡ []
  pub holds : me.1 ≡ []

-- SEATS IN LISTS

abbrev pub AllIn : {A : Type 0} → (A → Type 0) → List A → Type 0
AllIn P [] = Unit {0}
AllIn P (x ∷ xs) = P x × AllIn P xs

module _ {X E : Type 0} where
  -- the seats have the numbers from m on, in order
  abbrev pub SeatsFrom : ℕ → List (Sitting X E) → Type 0
  SeatsFrom m [] = Unit {0}
  SeatsFrom m (s ∷ ss) = (s.number ≡ m) × SeatsFrom (suc m) ss

  -- the same, for seats that have made no turn and seen nothing
  abbrev pub NewFrom : X → ℕ → List (Sitting X E) → Type 0
  NewFrom about m [] = Unit {0}
  NewFrom about m (s ∷ ss) =
      (s.number ≡ m) × (s.fixed ≡ Some about) × (s.turns ≡ 0) × (s.seen ≡ [])
      × NewFrom about (suc m) ss

  -- a new seat of the turnstile of the first
  abbrev pub new_sitting : Sitting X E → ℕ → Sitting X E
  new_sitting first number = record {
    table = first.table;
    number = number;
    given = 0;
    fixed = first.fixed;
    turns = 0;
    seen = [];
  }

  -- what is left of a seat that is given back
  abbrev pub old_of : Sitting X E → Old E
  old_of s = record { number = s.number; seen = s.seen }

  -- how many seats there are, as the first knows it
  abbrev pub given_of : List (Sitting X E) → ℕ
  given_of [] = 0
  given_of (s ∷ ss) = s.given

  -- the first seat's fixed data
  abbrev pub fixed_of : List (Sitting X E) → Option X
  fixed_of [] = None
  fixed_of (s ∷ ss) = s.fixed

  -- what each seat has seen is a prefix of the entries, and has all that are under its number
  abbrev pub SeatsCover : (E → ℕ) → List E → List (Sitting X E) → Type 0
  SeatsCover seat_of entries [] = Unit {0}
  SeatsCover seat_of entries (s ∷ ss) =
      Covers seat_of s.number s.seen entries × SeatsCover seat_of entries ss
