-- The shards of all servers, and how what happened follows from them.
use Rattle.std.specs.Prelude.{◌≡◌, ℕ, zero, suc, ◌+◌, ◌-◌, ◌*◌, ◌^◌, ◌<◌, ◌≤◌, Bool, List, [], ◌∷◌}
use Rattle.std.specs.Prelude.{◌++◌, length, slice_index_or, slice_set}
use Rattle.bm_base.specs.declared.ids.Moment.{Moment}
use Rattle.bm_base.specs.declared.ids.ServerId.{ServerId}
use Rattle.bm_base.specs.declared.flow.Flow.{Flow}
use Rattle.bm_base.specs.declared.flow.Segment.{Segment}
use Rattle.bm_fault.specs.declared.wire.Flight.{Flight}
use Rattle.bm_table.specs.declared.setting.Setting.{Setting}
use Rattle.bm_core.specs.declared.events.Event.{Event}
use Rattle.bm_core.specs.declared.events.Stage.{Stage}
use Rattle.bm_core.specs.declared.events.Verdict.{Verdict}
use Rattle.bm_core.specs.declared.events.What.{What}
use Rattle.bm_core.specs.Books.{book_of}
use Rattle.bm_core.specs.Runs.{last_clock}
use Rattle.bm_shard.specs.Replies.{is_held_by, verdict_by, what_of}
use Rattle.bm_shard.specs.States.{IsAfter, State, clock_at, event_at, first_state, known_in}
use Rattle.bm_shard.specs.Inside.States.{IsLeft}
use Rattle.bm_shard.specs.declared.book.Shard.{Shard}
use Rattle.bm_shard.specs.declared.calls.ShardCall.{ShardCall}
use Rattle.bm_shard.specs.declared.calls.ShardCall.TheVariants.{Arrive}

-- a shard of a server, as the setting has it
abbrev pub shard_by : Setting → ServerId → ℕ → Shard
shard_by setting s h =
    record { server = s; number = h; capacity = setting.capacity; timeout = setting.timeout }

-- the same, with no call made to it
abbrev pub first_shard : Setting → ServerId → ℕ → State
first_shard setting s h = first_state (shard_by setting s h)

-- the first h shards of a server, with no call made to them
abbrev pub server_shards : Setting → ServerId → ℕ → List State
server_shards setting s zero = []
server_shards setting s (suc h) = server_shards setting s h ++ first_shard setting s h ∷ []

-- the shards of the servers with numbers below n, with no call made to them
unfoldable pub all_shards : Setting → ℕ → List State
all_shards setting zero = []
all_shards setting (suc s) =
    all_shards setting s ++ server_shards setting (record { 0 = s }) setting.shards

-- the shard of no server
abbrev pub no_state : State
no_state =
    first_state (record { server = record { 0 = 0 }; number = 0; capacity = 0; timeout = 0 })

-- the shard at a place
abbrev pub state_at : List State → ℕ → State
state_at states place = slice_index_or states place no_state

-- the place of a server's shard
abbrev pub place_of : Stage → ServerId → ℕ → ℕ
place_of stage s h = s.0 * stage.script.setting.shards + h

-- CALLS

-- the moment before a clock: a shard's clock after a call is past the call's moment
abbrev pub before : Moment → Moment
before clock = record { 0 = clock.0 - 1 }

-- a copy arrives at this clock
abbrev pub arrival : Flight → Segment → Moment → ShardCall
arrival flight s clock = Arrive flight.packet flight.tag s (before clock)

-- the verdict of the shard on it
abbrev pub verdict_in : State → Flight → Segment → Moment → Verdict
verdict_in state flight s clock =
    verdict_by state.shard (known_in state) (clock_at state (arrival flight s clock)) flight.tag s

-- what happens at the call
abbrev pub what_in : State → ShardCall → What
what_in state call = (event_at state call).what

-- the shard holds a connection of the flow
abbrev pub holds : State → Flow → Bool
holds state f = is_held_by (known_in state) f

-- the call was made to the shard at the place
pub record IsCalled (place : ℕ) (call : ShardCall) (old new : List State) : Type 0 where
  pub after : State
  pub made : IsAfter call (state_at old place) after
  pub is : new ≡ slice_set old place after

-- the state is of this server's shard of this number
pub record IsAbout (s : ServerId) (h : ℕ) (state : State) : Type 0 where
  pub server : state.shard.server ≡ s
  pub number : state.shard.number ≡ h

-- what happens at the call, at this server and shard
abbrev pub what_at : ServerId → ℕ → State → ShardCall → What
what_at s h state call =
    what_of (record state.shard { server = s; number = h }) (known_in state) (clock_at state call)
    call

-- the shard at the place is there, and its clock is low
pub record IsReady (place : ℕ) (states : List State) : Type 0 where
  pub inside : place < length states
  pub clock : (state_at states place).clock.0 ≤ 6 * 10 ^ 18

-- EVENTS

-- the state is the one that the turns of the server's shard among these events left, and its clock
-- isn't past theirs
pub record IsShardOf (stage : Stage) (past : List Event) (s : ServerId) (h : ℕ) (state : State) :
    Type 0 where
  pub shard : state.shard ≡ shard_by stage.script.setting s h
  pub turns : IsLeft (book_of stage past s h) state
  pub clock : state.clock.0 ≤ last_clock past

-- there are shards of servers 0 to 1,024, and each is as its turns left it
pub record KeepsShards (stage : Stage) (past : List Event) (states : List State) : Type 0 where
  pub lie : 1025 * stage.script.setting.shards ≤ length states
  pub each : (s : ServerId) (h : ℕ) → s.0 ≤ 1024 → h < stage.script.setting.shards
      → IsShardOf stage past s h (state_at states (place_of stage s h))
