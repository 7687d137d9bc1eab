-- A shard without the book of its calls, and what a call does to it.
use Rattle.std.specs.Prelude.{◌≡◌, Bool, false, List, []}
use Rattle.bm_base.specs.declared.flow.Flow.{Flow}
use Rattle.bm_base.specs.declared.ids.Moment.{Moment}
use Rattle.bm_conn.specs.declared.table.Connection.{Connection}
use Rattle.bm_conn.specs.Connections.{AreOnce}
use Rattle.bm_core.specs.declared.events.Event.{Event}
use Rattle.bm_core.specs.declared.events.Local.{Local}
use Rattle.bm_core.specs.Runs.{next_clock}
use Rattle.bm_shard.specs.declared.book.Shard.{Shard}
use Rattle.bm_shard.specs.declared.calls.ShardCall.{ShardCall}
use Rattle.bm_shard.specs.declared.calls.ShardReply.{ShardReply}
use Rattle.bm_shard.specs.declared.holding.Holding.{Holding}
use Rattle.bm_shard.specs.Holdings.{TakesTurn, local_in}
use Rattle.bm_shard.specs.Replies.{reply_of, turn_of, what_of}
use Rattle.bm_shard.specs.Turns.{call_moment}

-- a state as contracts see it
pub record State : Type 0 where
  pub shard : Shard
  -- the flows that are held, in no particular order
  pub connections : List Connection
  pub retired : Bool
  -- the clock of the last call, or 0
  pub clock : Moment

-- a shard to which no call was made
abbrev pub first_state : Shard → State
first_state shard =
    record { shard = shard; connections = []; retired = false; clock = record { 0 = 0 } }

-- what it holds, whichever slots the flows are in
abbrev pub holding_in : State → Holding
holding_in state = record {
  table =
      record {
        connections = state.connections;
        capacity = state.shard.capacity;
        room = 0;
        slots = [];
      };
  retired = state.retired;
}

-- what it knows of a flow
abbrev pub known_in : State → Flow → Local
known_in state = local_in (holding_in state)

-- the clock of a call
abbrev pub clock_at : State → ShardCall → Moment
clock_at state call = record { 0 = next_clock state.clock.0 (call_moment call).0 }

-- the event of a call
abbrev pub event_at : State → ShardCall → Event
event_at state call = record {
  clock = clock_at state call;
  what = what_of state.shard (known_in state) (clock_at state call) call;
}

-- the reply to a call
abbrev pub reply_at : State → ShardCall → ShardReply
reply_at state call = reply_of state.shard (known_in state) (clock_at state call) call

-- the call was made at this clock
pub record IsServed (at : Moment) (call : ShardCall) (old new : State) : Type 0 where
  pub shard : new.shard ≡ old.shard
  pub takes : TakesTurn (turn_of old.shard (known_in old) at call) (holding_in old) (holding_in new)
  pub once : AreOnce new.connections
  pub clock : new.clock ≡ at

-- the call was made at its own clock
abbrev pub IsAfter : ShardCall → State → State → Type 0
IsAfter call old new = IsServed (clock_at old call) call old new
