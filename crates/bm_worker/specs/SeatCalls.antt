-- The calls of a worker's seats, each with its reply, by server and shard.
use Rattle.std.specs.Prelude.{◌≡◌, ℕ, ◌==◌, ◌&&◌, if◌then◌else◌, List, [], ◌∷◌, ◌++◌, slice_get}
use Rattle.std.specs.Prelude.{Option, Some, None}
use Rattle.bm_core.specs.declared.events.Event.{Event}
use Rattle.bm_core.specs.declared.events.What.TheVariants.{Sync}
use Rattle.bm_core.specs.declared.events.What.TheVariants.{Arrive as Arrives, Close as Closes}
use Rattle.bm_core.specs.declared.events.What.TheVariants.{Retire as Retires}
use Rattle.bm_shard.specs.declared.book.Shard.{Shard}
use Rattle.bm_shard.specs.declared.calls.ShardCall.{ShardCall}
use Rattle.bm_shard.specs.declared.calls.ShardCall.TheVariants.{Arrive, Close, Retire}
use Rattle.bm_shard.specs.declared.calls.ShardReply.{ShardReply}
use Rattle.bm_shard.specs.declared.calls.ShardReply.TheVariants.{Arrived, Closed, Retired}
use Rattle.bm_server.specs.Seats.{Seated, Answered, replies_at}

abbrev pub calls_in : Option (List Seated) → ℕ → List Answered
calls_in None h = []
calls_in (Some seat) h = replies_at seat h

-- the seats' calls to the shard h of the server at the place s, each with its reply, in order
abbrev pub calls_there : List (List Seated) → ℕ → ℕ → List Answered
calls_there seats s h = calls_in (slice_get seats s) h

-- one more call at this place and shard, and at no other
abbrev pub AddsCall : ℕ → ℕ → ShardCall → ShardReply → List (List Seated) → List (List Seated) → Type 0
AddsCall place shard call reply a b = (s h : ℕ) → calls_there b s h
    ≡ calls_there a s h ++ (if s == place && h == shard then (call, reply) ∷ [] else [])

-- no call was added
abbrev pub AddsNoCall : List (List Seated) → List (List Seated) → Type 0
AddsNoCall a b = (s h : ℕ) → calls_there b s h ≡ calls_there a s h

-- the event of a call with this reply
abbrev pub event_of_call : Shard → ShardCall → ShardReply → Event
event_of_call shard (Arrive packet tag segment due) (Arrived clock verdict answer) =
    record { clock = clock; what = Arrives packet tag.hop shard.server verdict }
event_of_call shard (Close flow at) (Closed clock closed) =
    record { clock = clock; what = Closes shard.server flow closed }
event_of_call shard (Retire at result) (Retired clock) =
    record { clock = clock; what = Retires shard.server shard.number at result }
event_of_call shard call reply = record { clock = record { 0 = 0 }; what = Sync }
