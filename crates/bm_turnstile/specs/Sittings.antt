-- The seats of a turnstile as contracts see them (docs/DEFINITIONS.md).
use Rattle.std.specs.Prelude.{◌≡◌, ℕ, ◌==◌, cond, Option, List, []}
use Rattle.atomic_table.specs.Seated.{TableId}

-- a seat between two turns. X is the state's fixed data, E an entry of its book
pub record Sitting (X E : Type 0) : Type 0 where
  -- whose seat it is
  pub table : TableId
  pub number : ℕ
  -- how many seats there are, as the first seat knows it
  pub given : ℕ
  -- the state's fixed data
  pub fixed : Option X
  -- how many turns it made
  pub turns : ℕ
  -- the entries that it has seen
  pub seen : List E

-- what no turn changes of a seat
pub record Who (X : Type 0) : Type 0 where
  pub table : TableId
  pub number : ℕ
  pub fixed : Option X
  pub given : ℕ

abbrev pub who : {X E : Type 0} → Sitting X E → Who X
who s = record {
  table = s.table;
  number = s.number;
  fixed = s.fixed;
  given = cond (s.number == 0) s.given 0;
}

-- the seat k of n
abbrev pub post : {X : Type 0} → TableId → Option X → ℕ → ℕ → Who X
post table fixed n k = record {
  table = table;
  number = k;
  fixed = fixed;
  given = cond (k == 0) n 0;
}

-- it is the seat k of n, whatever the fixed data
pub record IsPost {X : Type 0} (table : TableId) (n k : ℕ) (w : Who X) : Type 0 where
  pub «at» : w.table ≡ table
  pub «as» : w.number ≡ k
  pub of : w.given ≡ cond (k == 0) n 0

-- it has made no turn and seen nothing
pub record IsFresh {X E : Type 0} (s : Sitting X E) : Type 0 where
  pub turns : s.turns ≡ 0
  pub seen : s.seen ≡ []
