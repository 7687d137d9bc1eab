-- What is kept of clocks.
use Rattle.std.specs.Prelude.{◌≡◌, ℕ, ◌<◌, ◌≤◌, List, Option, IfSome}
use Rattle.std.specs.BTreeMap as tree
use Rattle.bm_core.specs.declared.events.Event.{Event}
use Rattle.bm_core.specs.declared.events.Stage.{Stage}
use Rattle.bm_core.specs.Runs.{actor_of, last_clock, own_clock}
use Rattle.bm_state.specs.contracts.author.AuthorOrd.TheImpl as author_order
use Rattle.bm_state.specs.declared.author.Author.{Author}
use Rattle.bm_state.specs.declared.clocks.Clocks.{Clocks}
use Rattle.bm_state.specs.Authors.{actor}

-- the clock that is kept of the author's last event
abbrev pub clock_in : Clocks → Author → Option ℕ
clock_in clocks a = tree.get (author_order.ghosts).cmp clocks.own a

-- this is kept after these events
pub record KeepsClocks (stage : Stage) (past : List Event) (clocks : Clocks) : Type 0 where
  pub last_one : clocks.last ≡ last_clock past
  pub own_of_each : (a : Author) → clock_in clocks a ≡ own_clock stage past (actor a)

-- the event's clock isn't below the last one, and is above the last one of its actor
abbrev pub IsOnTime : Stage → List Event → Event → Type 0
IsOnTime stage past e =
    (last_clock past ≤ e.clock.0)
    × IfSome (actor_of stage e.what) (λ a. IfSome (own_clock stage past a) (λ c. c < e.clock.0))
