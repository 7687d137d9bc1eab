-- The book of a shard (docs/DEFINITIONS.md): which calls it takes, what it keeps of them, and what
-- it replies. A past has its newest entry first.
use Rattle.std.specs.Prelude.{◌≡◌, ℕ, ◌≤◌, ◌*◌, ◌^◌, List, [], ◌∷◌}
use Rattle.bm_base.specs.declared.flow.Flow.{Flow}
use Rattle.bm_base.specs.declared.ids.Moment.{Moment}
use Rattle.bm_core.specs.declared.events.Event.{Event}
use Rattle.bm_core.specs.declared.events.Local.{Local}
use Rattle.bm_core.specs.Books.{book_local}
use Rattle.bm_core.specs.Runs.{next_clock}
use Rattle.bm_shard.specs.declared.book.Shard.{Shard}
use Rattle.bm_shard.specs.declared.calls.ShardCall.{ShardCall}
use Rattle.bm_shard.specs.declared.calls.ShardCall.TheVariants.{Arrive}
use Rattle.bm_shard.specs.declared.calls.ShardEntry.{ShardEntry}
use Rattle.bm_shard.specs.declared.calls.ShardReply.{ShardReply}
use Rattle.bm_shard.specs.Turns.{call_moment, turns}
use Rattle.bm_shard.specs.Replies.{reply_of, what_of}

-- a book as contracts see it: its shard, and the entries in their order
pub record Book : Type 0 where
  pub shard : Shard
  pub entries : List ShardEntry

-- a segment takes at most 2^20 sequence numbers
abbrev pub IsShort : ShardCall → Type 0
IsShort (Arrive packet tag segment due) = segment.len ≤ 1048576
IsShort _ = Unit {0}

-- the calls that a book takes
pub record IsTaken (call : ShardCall) : Type 0 where
  pub moment : (call_moment call).0 ≤ 9 * 10 ^ 18
  pub short : IsShort call

-- what the shard knows of a flow after these entries
abbrev pub knows_after : Shard → List ShardEntry → Flow → Local
knows_after shard past flow = book_local shard.capacity (turns past) flow

-- the clock of the newest entry, or 0
abbrev pub clock_of : List ShardEntry → Moment
clock_of [] = record { 0 = 0 }
clock_of (e ∷ past) = e.event.clock

-- the clock of a call after these entries
abbrev pub clock_after : List ShardEntry → ShardCall → Moment
clock_after past call = record { 0 = next_clock (clock_of past).0 (call_moment call).0 }

-- the event of a call after these entries
abbrev pub event_after : Shard → List ShardEntry → ShardCall → Event
event_after shard past call = record {
  clock = clock_after past call;
  what = what_of shard (knows_after shard past) (clock_after past call) call;
}

-- the reply to a call after these entries
abbrev pub reply_after : Shard → List ShardEntry → ShardCall → ShardReply
reply_after shard past call = reply_of shard (knows_after shard past) (clock_after past call) call

-- the entry of a call after these entries
abbrev pub entry_after : Shard → List ShardEntry → ℕ → ShardCall → ShardEntry
entry_after shard past seat call =
    record { seat = seat; call = call; event = event_after shard past call }

-- each entry is that of its call after the entries before it
abbrev pub Replays : Shard → List ShardEntry → Type 0
Replays shard [] = Unit {0}
Replays shard (e ∷ past) = (e.event ≡ event_after shard past e.call) × Replays shard past
