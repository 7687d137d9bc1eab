-- What was posted on a board (docs/DEFINITIONS.md).
use Rattle.std.specs.Prelude.{◌≡◌, ℕ, ◌*◌, ◌^◌, ◌<◌, ◌≤◌, List, [], ◌∷◌, ◌++◌, length}
use mathlib.Core.List.{IsPrefix}
use Rattle.logbook.specs.Pages.{Book}
use Rattle.bm_table.specs.Planned.{Planned}
use Rattle.bm_table.specs.Plans.{IsPlan}

-- what was posted on a board, or a beginning of it: the plan's first changes, each with a clock
pub record Posted : Type 0 where
  pub board : Book
  pub plan : Planned
  -- the clock of each post
  pub clocks : List ℕ

-- the version to which these posts lead
abbrev pub last_version : Posted → ℕ
last_version p = length p.clocks

-- the last clock, or this one if there is none
abbrev pub last_or : ℕ → List ℕ → ℕ
last_or clock [] = clock
last_or clock (c ∷ clocks) = last_or c clocks

-- the clock of the last post, or 0
abbrev pub last_post : Posted → ℕ
last_post p = last_or 0 p.clocks

-- one more post
abbrev pub with_post : Posted → ℕ → Posted
with_post p clock = record p { clocks = p.clocks ++ clock ∷ [] }

-- the same board and plan, with these posts and maybe more
pub record Continues (p q : Posted) : Type 0 where
  pub board : q.board ≡ p.board
  pub plan : q.plan ≡ p.plan
  pub posts : IsPrefix p.clocks q.clocks

-- the clocks rise, are above `low`, and are at most LAST
abbrev pub RiseAbove : ℕ → List ℕ → Type 0
RiseAbove low [] = low ≤ 9 * 10 ^ 18
RiseAbove low (c ∷ clocks) = (low < c) × RiseAbove c clocks

-- what holds of everything that is posted
pub record IsPosted (p : Posted) : Type 0 where
  pub plan : IsPlan p.plan
  pub few : length p.clocks ≤ length p.plan.changes
  pub rising : RiseAbove 0 p.clocks
