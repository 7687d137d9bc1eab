-- The terms of the laws on books.
use Rattle.std.specs.Prelude.{◌≡◌, true, List, reverse}
use Rattle.bm_core.specs.declared.events.Event.{Event}
use Rattle.bm_core.specs.declared.events.Stage.{Stage}
use Rattle.bm_core.specs.Books.{book_of, book_retired}
use Rattle.bm_core.specs.Past.{timeout}
use Rattle.bm_shard.specs.declared.book.Shard.{Shard}
use Rattle.bm_shard.specs.Books.{Book}
use Rattle.bm_shard.specs.Turns.{turns}

-- the shard has the capacity and the timeout of the stage
pub record IsOf (stage : Stage) (shard : Shard) : Type 0 where
  pub capacity : shard.capacity ≡ stage.script.setting.capacity
  pub timeout_is : shard.timeout ≡ timeout stage

-- the entries are the shard's turns among these events
abbrev pub AreOf : Stage → List Event → Book → Type 0
AreOf stage past book =
    turns (reverse book.entries) ≡ book_of stage past book.shard.server book.shard.number

-- a retirement of the shard was done
abbrev pub IsRetired : Book → Type 0
IsRetired book = book_retired (turns (reverse book.entries)) ≡ true
