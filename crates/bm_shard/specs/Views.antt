-- How contracts see a shard's state and its book, and their invariants.
use Rattle.std.specs.Prelude.{◌≡◌, ◌+◌, ◌*◌, ◌^◌, ◌≤◌, length, reverse}
use Rattle.bm_shard.specs.Books.{Book, Replays, clock_of}
use Rattle.bm_shard.specs.States.{State}
use Rattle.bm_shard.specs.Inside.States.{IsLeft}
use Rattle.bm_shard.specs.Turns.{turns}
use Rattle.bm_shard.specs.declared.book.ShardBook.TheInside.{Inside as BookInside}
use Rattle.bm_shard.specs.declared.state.ShardState.TheInside.{Inside as StateInside}

abbrev pub state_of : StateInside → State
state_of a = record {
  shard = a.shard;
  connections = a.holding.table.connections;
  retired = a.holding.retired;
  clock = a.clock;
}

-- the table has the shard's capacity
abbrev pub HasCapacity : StateInside → Type 0
HasCapacity a = a.holding.table.capacity ≡ a.shard.capacity

abbrev pub book_of : BookInside → Book
book_of a = record { shard = a.state.shard; entries = a.entries.items }

-- the state is what the entries left
pub record IsKept (a : BookInside) : Type 0 where
  pub left : IsLeft (turns (reverse a.entries.items)) a.state
  pub clock : a.state.clock ≡ clock_of (reverse a.entries.items)
  pub bound : a.state.clock.0 ≤ 9 * 10 ^ 18 + length a.entries.items
  pub replays : Replays a.state.shard (reverse a.entries.items)
