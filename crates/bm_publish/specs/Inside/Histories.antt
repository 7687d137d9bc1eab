-- The history of a board, entry by entry. Only the proofs of bodies use this.
use mathlib.Core.List.{IsPrefix}
use Rattle.std.specs.Prelude.{◌≡◌, ℕ, ◌<◌, true, List, [], ◌∷◌, ◌++◌, length}
use Rattle.logbook.specs.Pages.{Book, Cell, Named, Step, View, cell, nib, may_make}
use Rattle.bm_table.specs.Planned.{Planned}
use Rattle.bm_publish.specs.declared.snapshot.Line.{Line}
use Rattle.bm_publish.specs.declared.snapshot.Line.TheVariants.{Opens, Posts}
use Rattle.bm_publish.specs.Posts.{Posted}

-- the plan with which the history opens
abbrev pub plan_in : List Line → Planned
plan_in [] = record { buckets = 0; servers = []; changes = [] }
plan_in (Opens plan ∷ log) = plan
plan_in (Posts clock next ∷ log) = plan_in log

-- the clock of each post
abbrev pub clocks_in : List Line → List ℕ
clocks_in [] = []
clocks_in (Opens plan ∷ log) = clocks_in log
clocks_in (Posts clock next ∷ log) = clock.0 ∷ clocks_in log

-- the history opens with a plan
abbrev pub IsOpened : List Line → Type 0
IsOpened [] = ⊥
IsOpened (Opens plan ∷ log) = Unit {0}
IsOpened (Posts clock next ∷ log) = ⊥

abbrev pub posted_in : Book → List Line → Posted
posted_in board log = record { board = board; plan = plan_in log; clocks = clocks_in log }

-- THE PERMIT TO POST
-- The permit to post is the pen of a cell. Each post gives its own cell back, and names the cell of
-- the next permit. The first permit is cell 1.

-- the cell of the permit for the next post
abbrev pub permit_in : ℕ → List Line → ℕ
permit_in key [] = key
permit_in key (Opens plan ∷ log) = permit_in key log
permit_in key (Posts clock next ∷ log) = permit_in next log

-- the cell of each permit that was used was given back
abbrev pub IsSpent : List Cell → ℕ → List Line → Type 0
IsSpent cells key [] = Unit {0}
IsSpent cells key (Opens plan ∷ log) = IsSpent cells key log
IsSpent cells key (Posts clock next ∷ log) = ((cell cells key).1 ≡ true) × IsSpent cells next log

-- cell 0 is the word of all steps, and contains 0 while it is the only one
pub record IsCounted (cells : List Cell) (log : List Line) : Type 0 where
  pub some : 0 < length cells
  pub word : (cell cells 0).1 ≡ true
  pub fresh : (cell cells 0).0 ≡ 0 → length cells ≡ 1
  pub spent : IsSpent cells 1 log

abbrev pub head_of : Book → Named
head_of board = record { tracked = true; key = 0; book = board }

-- a new cell's pen; the first of all is had before any post
abbrev pub Grants : Step Line → View Line ℕ → ℕ → View Line ℕ → Type 0
Grants s v found w =
    (w.1.0 ≡ nib may_make w.1.0.key 0) × (found ≡ 0 → (w.1.0.key ≡ 1) × (clocks_in w.0 ≡ []))

-- the post was added to all that had been seen
abbrev pub Adds : Step Line → View Line ℕ → ℕ → View Line ℕ → Type 0
Adds s v found w =
    (clocks_in w.0 ≡ clocks_in v.0 ++ clocks_in (s.ask ∷ [])) × (permit_in 1 w.0 ≡ permit_in 0 (s.ask ∷ []))

-- the holder of the permit has seen all posts
abbrev pub Checks : Step Line → View Line ℕ → ℕ → View Line ℕ → Type 0
Checks s v found w =
    (w.1.0 ≡ v.1.0)
    × ((xs : List Line) → IsPrefix xs v.0 → permit_in 1 xs ≡ v.1.0.key → clocks_in w.0 ≡ clocks_in xs)
