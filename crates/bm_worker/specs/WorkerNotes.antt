-- What a worker does, as notes, and the calls of its seats, each with its reply. Lists of notes
-- have the newest first.
use Rattle.std.specs.Prelude.{◌≡◌, ◌<◌, ℕ, if◌then◌else◌, true, List, [], ◌∷◌, ◌++◌, length, map}
use Rattle.std.specs.Prelude.{slice_get, Some}
use Rattle.bm_base.specs.declared.fate.Fate.{Fate}
use Rattle.bm_base.specs.declared.ids.Moment.{Moment}
use Rattle.bm_base.specs.declared.ids.ServerId.{ServerId}
use Rattle.bm_table.specs.Tables.{is_known}
use Rattle.bm_core.specs.declared.events.Event.{Event}
use Rattle.bm_core.specs.declared.events.Stage.{Stage}
use Rattle.bm_core.specs.declared.events.What.{What}
use Rattle.bm_core.specs.Runs.{Actor}
use Rattle.bm_core.specs.Runs.Actor.{ShardOf}
use Rattle.bm_merge.specs.Notes.{Note}
use Rattle.bm_merge.specs.Workers.{is_home}
use Rattle.bm_shard.specs.declared.book.Shard.{Shard}
use Rattle.bm_shard.specs.Turns.{call_moment}
use Rattle.bm_turnstile.specs.Sittings.{who}
use Rattle.bm_server.specs.Servings.{Serving}
use Rattle.bm_server.specs.Seats.{Answered, Seated, row}
use Rattle.bm_server.specs.Servings.{shard_at}
use Rattle.bm_worker.specs.Callers.{CallerState}
use Rattle.bm_worker.specs.SeatCalls.{event_of_call, calls_there}

-- SEATS

-- the worker has the seat of its number at each of these servers
abbrev pub HasSeats : List Serving → CallerState → Type 0
HasSeats servers p = map (map who) p.seats ≡ map (λ server. row server p.number) servers

-- what no call of a worker's seats changes
pub record IsSameCaller (old new : CallerState) : Type 0 where
  pub number : new.number ≡ old.number
  pub who_is : map (map who) new.seats ≡ map (map who) old.seats

-- one of the servers has this number
abbrev pub HasServer : List Serving → ServerId → Type 0
HasServer servers id =
    (s : ℕ) × (server : Serving) × (slice_get servers s ≡ Some server) × (server.id ≡ id)

-- a server at a lower place has a lower number
abbrev pub NumbersRise : List Serving → Type 0
NumbersRise servers =
    (s t : ℕ) (a b : Serving) → slice_get servers s ≡ Some a → slice_get servers t ≡ Some b → s < t
    → a.id.0 < b.id.0

-- the servers stand by rising numbers, so none is there twice; each that the script knows at its end
-- is among them, and each is as the setting has it
pub record AreServersOf (stage : Stage) (servers : List Serving) : Type 0 where
  pub rise : NumbersRise servers
  pub shards : (s : ℕ) (server : Serving) → slice_get servers s ≡ Some server
      → length server.tables ≡ stage.script.setting.shards
  pub capacity : (s : ℕ) (server : Serving) → slice_get servers s ≡ Some server
      → server.capacity ≡ stage.script.setting.capacity
  pub timeout : (s : ℕ) (server : Serving) → slice_get servers s ≡ Some server
      → server.timeout ≡ stage.script.setting.timeout
  pub known : (id : ServerId)
      → is_known stage.script.plan (length stage.script.plan.changes) id ≡ true
      → HasServer servers id

-- THE CALLS OF THE SEATS

-- an event, and the moment that was passed to the shard
abbrev pub TimedEvent : Type 0
TimedEvent = Event × ℕ

abbrev pub timed_event : Shard → Answered → TimedEvent
timed_event shard a = (event_of_call shard a.0 a.1, (call_moment a.0).0)

-- the events of these calls with their replies, in order
abbrev pub timed_events : Shard → List Answered → List TimedEvent
timed_events shard calls = map (timed_event shard) calls

-- what the notes say about one actor's log, the oldest first
abbrev pub noted : Stage → Actor → List Note → List TimedEvent
noted stage a [] = []
noted stage a (n ∷ notes) =
    noted stage a notes ++ (if is_home stage a n then (n.event, n.due) ∷ [] else [])

-- the seats' calls and replies grew by exactly these notes, at each shard in their order
abbrev pub GetReplies : Stage → List Serving → List (List Seated) → List (List Seated) → List Note
    → Type 0
GetReplies stage servers a b notes = (s h : ℕ) (server : Serving) → slice_get servers s ≡ Some server
    → timed_events (shard_at server h) (calls_there b s h)
    ≡ timed_events (shard_at server h) (calls_there a s h) ++ noted stage (ShardOf server.id.0 h) notes

-- NOTES

-- what happens at a clock, due at a moment, by the worker of this seat
abbrev pub note_at : Moment → What → Fate → ℕ → ℕ → ℕ → Note
note_at clock what fate command due seat = record {
  event = record { clock = clock; what = what };
  fate = fate;
  command = command;
  due = due;
  seat = seat;
}

-- the fate recorded for an event that sends nothing
abbrev pub no_fate : Fate
no_fate = record { copies = 1; delay = 0 }

abbrev pub clock_of : Note → ℕ
clock_of n = n.event.clock.0
