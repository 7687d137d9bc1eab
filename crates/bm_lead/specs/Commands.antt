-- What worker 0 does (docs/DEFINITIONS.md), as notes, and what holds of the notes that carry out
-- the first commands of a script. Lists of notes have the newest first.
use Rattle.std.specs.Prelude.{◌≡◌, ℕ, ◌<◌, ◌≤◌, ◌==◌, if◌then◌else◌, List, [], ◌∷◌, ◌++◌, take}
use Rattle.std.specs.Prelude.{Bool, true, false, IfSome, slice_get}
use Rattle.std.specs.List.{AllByRecursion}
use Rattle.bm_base.specs.declared.flow.Flow.{Flow}
use Rattle.bm_base.specs.declared.ids.Moment.{Moment}
use Rattle.bm_base.specs.declared.ids.ServerId.{ServerId}
use Rattle.bm_table.specs.Tables.{IsRetirement}
use Rattle.bm_core.specs.declared.events.Event.{Event}
use Rattle.bm_core.specs.declared.events.Stage.{Stage}
use Rattle.bm_core.specs.declared.events.What.{What}
use Rattle.bm_core.specs.declared.events.What.TheVariants.{Publish, Retire, Sync}
use Rattle.bm_core.specs.Accounts.{closes_flow, count_of, is_sync, retires_shard}
use Rattle.bm_core.specs.Accounts.{wants_close, wants_retire, wants_sync}
use Rattle.bm_core.specs.Past.{timeout}
use Rattle.bm_core.specs.Runs.{own_clock}
use Rattle.bm_core.specs.Runs.Actor.{Controller}
use Rattle.bm_merge.specs.Merges.{IsNextVersion, newest_until}
use Rattle.bm_merge.specs.Notes.{Note, events_of, many, size_of}
use Rattle.bm_merge.specs.Workers.{home_part}
use Rattle.bm_worker.specs.WorkerNotes.{note_at, no_fate}

-- a Sync at this clock, by the command of this number
abbrev pub syncing : Moment → ℕ → Note
syncing clock command = note_at clock Sync no_fate command 0 0

-- THE CONTROLLER'S LOG

-- the events of the notes that are in it
abbrev pub control_log : Stage → List Note → List Event
control_log stage notes = events_of (home_part stage Controller notes)

-- the event is a Publish
abbrev pub is_publish : What → Bool
is_publish (Publish v) = true
is_publish _ = false

-- the clocks of its Publishes, the oldest first
abbrev pub posted_clocks : List Event → List ℕ
posted_clocks [] = []
posted_clocks (e ∷ past) =
    if is_publish e.what then posted_clocks past ++ e.clock.0 ∷ [] else posted_clocks past

-- the clocks of the log increase, and it publishes the versions in order
pub record IsControlStep (stage : Stage) (rest : List Event) (e : Event) : Type 0 where
  pub own : IfSome (own_clock stage rest Controller) (λ c. c < e.clock.0)
  pub version : IsNextVersion stage rest e.what

-- the answer to a retire follows from the versions that the log publishes up to its clock
abbrev pub IsJudgedBy : Stage → List Event → ℕ → What → Type 0
IsJudgedBy stage control clock (Retire server h at result) =
    IsRetirement stage.script.plan (timeout stage) (newest_until clock control) server at.0 result
IsJudgedBy stage control clock _ = Unit {0}

-- COUNTS

-- the first i commands, and no others, have all their events
pub record AreDone (stage : Stage) (i : ℕ) (notes : List Note) : Type 0 where
  pub earlier : AllByRecursion (λ n. n.command < i) notes
  pub complete : (j : ℕ) → j < i
      → many (λ n. n.command == j) notes
      ≡ size_of stage.script.setting.shards (slice_get stage.script.commands j)
  -- as many of each kind as these commands ask for
  pub closes : (s : ServerId) (f : Flow)
      → many (λ n. closes_flow n.event.what s f) notes
      ≡ count_of (λ c. wants_close c s f) (take i stage.script.commands)
  pub retires : (s : ServerId) (h : ℕ) → h < stage.script.setting.shards
      → many (λ n. retires_shard n.event.what s h) notes
      ≡ count_of (λ c. wants_retire c s) (take i stage.script.commands)
  pub no_other : (s : ServerId) (h : ℕ) → stage.script.setting.shards ≤ h
      → many (λ n. retires_shard n.event.what s h) notes ≡ 0
  pub syncs : many (λ n. is_sync n.event.what) notes
      ≡ count_of wants_sync (take i stage.script.commands)
