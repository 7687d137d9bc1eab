-- The rule of a board. Only the proofs of bodies use this.
use Rattle.std.specs.Prelude.{◌≡◌, ℕ, suc, List, [], ◌∷◌, Option, Some, IfSome, MatchOption}
use mathlib.Core.Option.{some}
use lib.ListN.{get_elem?}
use Rattle.logbook.specs.Pages.{Book}
use Rattle.bm_base.specs.declared.label.Entry.{Entry}
use Rattle.bm_table.specs.declared.plan.Change.{Change}
use Rattle.bm_table.specs.Entries.{IsTable, after_moves}
use Rattle.bm_publish.specs.declared.shown.Post.{Post}
use Rattle.bm_publish.specs.Posts.{Posted, last_version}

-- the entries from bucket b on, after the change
abbrev pub changed_from : Change → ℕ → List Entry → List Entry
changed_from change b [] = []
changed_from change b (entry ∷ entries) =
    after_moves change.moment.0 change.moves b entry ∷ changed_from change (suc b) entries

-- the table is that of the version to which the posts lead
abbrev pub IsRight : List Entry → Posted → Type 0
IsRight entries posted = IsTable posted.plan (last_version posted) entries

-- a seat's view, if it has one, is of this board
abbrev pub IsOn : Book → Option Posted → Type 0
IsOn board snapshot = IfSome snapshot (λ t. t.board ≡ board)

-- the table is right, and each seat's view, if it has one, is of this board
pub record Keeps (entries : List Entry) (p : Posted) (views : List (Option Posted)) : Type 0 where
  pub right : IsRight entries p
  pub each : (seat : ℕ) (v : Option Posted) → get_elem? views seat ≡ some v → IsOn p.board v

-- after a seat sees this, its view is these posts
pub record Sees (entries : List Entry) (p : Posted) (before after : Option Posted) : Type 0 where
  pub right : IsRight entries p
  pub snapshot : after ≡ Some p
  pub board : IsOn p.board before

-- a seat has a view, which is of this board
abbrev pub Knows : Book → Option Posted → Type 0
Knows board view = (snapshot : Posted) × (view ≡ Some snapshot) × (snapshot.board ≡ board)

-- all that was posted is shown, except the post that waits
abbrev pub ShowsAllBut : List Entry → Posted → Posted → Option Post → Type 0
ShowsAllBut entries shown past waiting =
    MatchOption waiting (shown ≡ past)
    (λ post. IsRight (changed_from post.change 0 entries) post.snapshot × (post.snapshot ≡ past))
