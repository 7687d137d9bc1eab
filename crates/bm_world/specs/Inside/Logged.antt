-- The logs of the books, and those that are merged. Only the proofs of bodies use this.
use Rattle.std.specs.Prelude.{◌≡◌, ℕ, List, [], ◌∷◌, ◌++◌, length, map, slice_get, Bool, false}
use Rattle.std.specs.Prelude.{◌||◌}
use Rattle.std.specs.Prelude.{Some}
use Rattle.bm_core.specs.declared.events.Event.{Event}
use Rattle.bm_merge.specs.Merges.{joined}
use Rattle.bm_merge.specs.Rising.{in_order}
use Rattle.bm_shard.specs.Books.{Book}
use Rattle.bm_world.specs.declared.run_logs.Group.{Group}
use Rattle.bm_world.specs.declared.run_logs.RunLog.{RunLog}
use Rattle.bm_world.specs.declared.run_logs.Source.{Source}
use Rattle.bm_world.specs.declared.run_logs.Source.TheVariants.{Servers, Workers}

-- the events of a book, the oldest first
abbrev pub book_log : Book → List Event
book_log book = map (λ e. e.event) book.entries

-- those of all books, one after another
abbrev pub books_logs : List (List Book) → List (List Event)
books_logs [] = []
books_logs (books ∷ all) = map book_log books ++ books_logs all

-- the events of a log that is merged
abbrev pub log_events : RunLog → List Event
log_events log = log.events.items

-- the logs of a group
abbrev pub source_logs : Source → List (List Event)
source_logs (Workers logs) = logs.items
source_logs (Servers all) = books_logs all.items

-- how many workers or servers these logs belong to
abbrev pub source_size : Source → ℕ
source_size (Workers logs) = length logs.items
source_size (Servers all) = length all.items

abbrev pub group_logs : Group → List (List Event)
group_logs group = source_logs group.source

-- what a group merged into
abbrev pub group_events : Group → List Event
group_events group = group.events.items

-- the group's logs were merged, unless memory was refused, and are dropped
pub record HasMerged (old new : Group) : Type 0 where
  pub events : new.refused ≡ false → new.events.items ≡ in_order (joined (group_logs old))
  pub let_go : group_logs new ≡ []

-- the same for each of these groups
pub record HaveMerged (before now : List Group) : Type 0 where
  pub each : (k : ℕ) (old new : Group)
      → slice_get before k ≡ Some old → slice_get now k ≡ Some new → HasMerged old new

-- memory was refused for one of the groups
abbrev pub one_refused : List Group → Bool
one_refused [] = false
one_refused (group ∷ groups) = group.refused || one_refused groups
