-- The log of a shard: the entries of its book, with what their callers know besides. A log has its
-- newest entry first. Only the proofs of bodies use this.
use Rattle.std.specs.Prelude.{◌≡◌, ℕ, true, ◌&&◌, ◌==◌, nat_lt, if◌then◌else◌, List, [], ◌∷◌, Some}
use Rattle.std.specs.List.{AllByRecursion}
use Rattle.bm_base.specs.declared.flow.Segment.{Segment}
use Rattle.bm_base.specs.declared.label.Label.{Label}
use Rattle.bm_base.specs.declared.label.Tag.{Tag}
use Rattle.bm_base.specs.declared.fate.Fate.{Fate}
use Rattle.bm_base.specs.Labels.{tag_of}
use Rattle.bm_table.specs.Tables.{IsRetirement}
use Rattle.bm_core.specs.declared.events.Stage.{Stage}
use Rattle.bm_core.specs.Past.{segment_of, shard, timeout, label_of, sends}
use Rattle.bm_core.specs.Runs.Actor.{Controller, MuxOf}
use Rattle.bm_shard.specs.declared.book.Shard.{Shard}
use Rattle.bm_shard.specs.declared.calls.ShardCall.{ShardCall}
use Rattle.bm_shard.specs.declared.calls.ShardCall.TheVariants.{Arrive, Close, Retire}
use Rattle.bm_shard.specs.declared.calls.ShardEntry.{ShardEntry}
use Rattle.bm_shard.specs.Turns.{call_moment}
use Rattle.bm_merge.specs.Merges.{Log, gathered, named, some_event, newest_until}
use Rattle.bm_merge.specs.Notes.{Note}

-- an entry, the fate that was drawn for its copies if it forwards, and the number of its command
pub record Kept : Type 0 where
  pub entry : ShardEntry
  pub fate : Fate
  pub command : ℕ

abbrev pub entries_of : List Kept → List ShardEntry
entries_of [] = []
entries_of (k ∷ kept) = k.entry ∷ entries_of kept

abbrev pub note_of : Kept → Note
note_of k = record {
  event = k.entry.event;
  fate = k.fate;
  command = k.command;
  due = (call_moment k.entry.call).0;
  seat = k.entry.seat;
}

abbrev pub notes_of : List Kept → List Note
notes_of [] = []
notes_of (k ∷ kept) = note_of k ∷ notes_of kept

-- a copy is of a packet that its mux labelled, with the tag of that label for this server, and was
-- sent before
pub record IsCopy (stage : Stage) (logs : List Log) (about : Shard) (clock packet : ℕ) (tag : Tag)
    (segment : Segment) : Type 0 where
  pub is_segment : segment_of stage packet ≡ Some segment
  pub here : shard stage segment.flow ≡ about.number
  pub label : Label
  pub is_label : label_of stage (named logs (MuxOf label.mux.0)) packet ≡ Some label
  pub tagged : tag_of label tag.hop ≡ Some tag
  pub mine : tag.dest ≡ about.server
  pub sent : some_event (λ e. sends e.what packet tag.hop && nat_lt e.clock.0 clock) (gathered logs)
      ≡ true

-- what the callers pass
abbrev pub IsAsked : Stage → List Log → Shard → ℕ → ShardCall → Type 0
IsAsked stage logs about clock (Arrive packet tag segment due) =
    IsCopy stage logs about clock packet tag segment
IsAsked stage logs about clock (Close flow at) = shard stage flow ≡ about.number
IsAsked stage logs about clock (Retire at result) =
    IsRetirement stage.script.plan (timeout stage) (newest_until clock (named logs Controller))
    about.server at.0
    result

abbrev pub AreAsked : Stage → List Log → Shard → List Kept → Type 0
AreAsked stage logs about kept =
    AllByRecursion (λ k. IsAsked stage logs about k.entry.event.clock.0 k.entry.call) kept

-- the entries of the seat
abbrev pub entries_by : ℕ → List ShardEntry → List ShardEntry
entries_by w [] = []
entries_by w (e ∷ entries) =
    if e.seat == w then e ∷ entries_by w entries else entries_by w entries

-- the notes are of these entries, in order
abbrev pub AreNoted : List ShardEntry → List Note → Type 0
AreNoted [] [] = Unit {0}
AreNoted (e ∷ entries) (n ∷ notes) =
    ((n.event ≡ e.event) × (n.due ≡ (call_moment e.call).0) × (n.seat ≡ e.seat))
    × AreNoted entries notes
AreNoted _ _ = ⊥
