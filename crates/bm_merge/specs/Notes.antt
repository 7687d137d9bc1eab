-- What the workers of a threaded run know of their events, and the terms of their promises
-- (docs/DEFINITIONS.md). A log has its newest note first, and so has what a worker did.
use Rattle.std.specs.Prelude.{ℕ, ◌+◌, ◌<◌, ◌≤◌, max, Bool, false, ◌&&◌, ◌||◌, nat_le}
use Rattle.std.specs.Prelude.{nat_lt, MatchBool}
use Rattle.std.specs.Prelude.{if◌then◌else◌, List, [], ◌∷◌, ◌++◌, Option, Some}
use Rattle.bm_base.specs.declared.ids.MuxId.{MuxId}
use Rattle.bm_base.specs.declared.fate.Fate.{Fate}
use Rattle.bm_table.specs.declared.script.Command.{Command}
use Rattle.bm_table.specs.declared.script.Command.TheVariants.{Retire as RetireCommand}
use Rattle.bm_core.specs.declared.events.What.{What}
use Rattle.bm_core.specs.declared.events.What.TheVariants.{Retire}
use Rattle.bm_core.specs.declared.events.Event.{Event}
use Rattle.bm_core.specs.Past.{version_at, is_switch_of}
use Rattle.bm_core.specs.Runs.{Actor}
use Rattle.bm_core.specs.Runs.Actor.{Controller}
use Rattle.bm_core.specs.Threads.{is_command, newest_before, publish_clock, sync_clock}
use Rattle.bm_merge.specs.Merges.{Log, named}

-- NOTES

-- an event, and what its worker knows besides
pub record Note : Type 0 where
  pub event : Event
  -- the fate that was drawn for what the event sends
  pub fate : Fate
  -- the number of the command that it carries out
  pub command : ℕ
  -- the moment that was passed to the shard
  pub due : ℕ
  -- the worker: 0, or the mux's number plus one
  pub seat : ℕ

-- a log whose events have notes
pub record NotedLog : Type 0 where
  pub actor : Actor
  pub notes : List Note

-- the events of the notes
abbrev pub events_of : List Note → List Event
events_of [] = []
events_of (n ∷ notes) = n.event ∷ events_of notes

-- the logs with just their events
abbrev pub plain : List NotedLog → List Log
plain [] = []
plain (l ∷ logs) = record { actor = l.actor; events = events_of l.notes } ∷ plain logs

-- all notes of the logs: the last log's first, each log's newest first
abbrev pub all_notes : List NotedLog → List Note
all_notes [] = []
all_notes (l ∷ logs) = all_notes logs ++ l.notes

-- SUMS AND GREATEST NUMBERS, which don't depend on the order of the notes

-- the sum of f over the notes
abbrev pub total : (Note → ℕ) → List Note → ℕ
total f [] = 0
total f (n ∷ notes) = f n + total f notes

-- how many of the notes pass the test
abbrev pub many : (Note → Bool) → List Note → ℕ
many test notes = total (λ n. if test n then 1 else 0) notes

-- the greatest f over the notes, or 0
abbrev pub greatest : (Note → ℕ) → List Note → ℕ
greatest f [] = 0
greatest f (n ∷ notes) = max (f n) (greatest f notes)

-- the greatest clock of the notes that pass the test, or 0
abbrev pub top_clock : (Note → Bool) → List Note → ℕ
top_clock test notes = greatest (λ n. if test n then n.event.clock.0 else 0) notes

-- COMMANDS

-- the note is of a command earlier than this number
abbrev pub is_earlier : ℕ → Note → Bool
is_earlier i n = is_command n.event.what && nat_lt n.command i

-- the shard of a retire's event; 0 for an event of another command
abbrev pub mark_of : What → ℕ
mark_of (Retire server h at result) = h
mark_of _ = 0

-- how many events the command has
abbrev pub size_of : ℕ → Option Command → ℕ
size_of shards (Some (RetireCommand at server)) = shards
size_of shards _ = 1

-- WHAT A MUX SEES OF THE CONTROLLER: what the controller did up to the clock of the mux's event

-- the events up to this clock
abbrev pub until : ℕ → List Event → List Event
until clock [] = []
until clock (e ∷ past) = if nat_le e.clock.0 clock then e ∷ past else until clock past

-- the controller's log up to this clock
abbrev pub controlled : List Log → ℕ → List Event
controlled logs clock = until clock (named logs Controller)

-- the mux switched at this clock or later
abbrev pub switched_since : ℕ → ℕ → List Event → Bool
switched_since since m [] = false
switched_since since m (e ∷ past) =
    (is_switch_of e.what m && nat_le since e.clock.0) || switched_since since m past

-- the moment of a look at a version: that of its Publish or of the last Sync, whichever is later
abbrev pub look_moment : List Event → ℕ → ℕ
look_moment control v = max (publish_clock control v) (sync_clock control)

-- a look of a mux, after the rest of its log and this log of the controller: the first since the
-- last Sync is to a version no older than the mux's own and than the newest from before that Sync;
-- each later one is to a newer version
abbrev pub IsLookAfter : List Event → List Event → MuxId → ℕ → Type 0
IsLookAfter control rest m v =
    MatchBool (switched_since (sync_clock control) m.0 rest)
    ((version_at rest m).0 < v)
    ((newest_before control ≤ v) × ((version_at rest m).0 ≤ v))
