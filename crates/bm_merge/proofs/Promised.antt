-- What is promised of the notes of the logs together, log by log, each promise about the notes of all logs. It
-- follows from the workers' promises, and from it that the merged notes are a threaded run.
use Rattle.std.proofs.Common.{◌≡◌, ℕ, suc, ◌+◌, ◌<◌, ◌≤◌, max, Bool, true, ◌&&◌, List, [], ◌∷◌, length, leb}
use Rattle.std.proofs.Common.{ltb}
use Rattle.std.specs.Prelude.{slice_get, IfSome, is_some, ◌==◌, if◌then◌else◌}
use Rattle.std.specs.List.{AllByRecursion}
use Rattle.bm_base.specs.declared.ids.ServerId.{ServerId}
use Rattle.bm_base.specs.declared.ids.MuxId.{MuxId}
use Rattle.bm_base.specs.declared.flow.Flow.{Flow}
use Rattle.bm_base.specs.declared.label.Hop.{Hop}
use Rattle.bm_base.specs.declared.fate.Fate.{Fate}
use Rattle.bm_table.specs.Tables.{next_change, change_moment}
use Rattle.bm_core.specs.declared.events.What.{What}
use Rattle.bm_core.specs.declared.events.What.TheVariants.{Publish, Switch, Steer, Lose, Arrive, Close, Retire, Sync}
use Rattle.bm_core.specs.declared.events.Event.{Event}
use Rattle.bm_core.specs.declared.events.Stage.{Stage}
use Rattle.bm_core.specs.Past.{segment_of, shard, sending_of, sends, newest, label_of, is_switch_of}
use Rattle.bm_core.specs.Runs.{AtEach, actor_of, next_clock}
use Rattle.bm_core.specs.Runs.Actor.{Controller, MuxOf}
use Rattle.bm_core.specs.Accounts.{Routes, Rules, IsRouted, count_of, counts, steers_packet, arrives, loses}
use Rattle.bm_core.specs.Accounts.{closes_flow, retires_shard, is_sync, wants_close, wants_retire, wants_sync}
use Rattle.bm_core.specs.Threads.{IsOf, last_own, is_command, moment_at, phase_of, record_moment, packet_of}
use Rattle.bm_core.specs.Threads.{sync_clock, publish_clock, steers_later, arrives_later}
use Rattle.bm_merge.specs.Merges.{Log, named, Agree}
use Rattle.bm_merge.specs.Notes.{Note, NotedLog, events_of, plain, all_notes, total, many, top_clock, is_earlier}
use Rattle.bm_merge.specs.Notes.{mark_of}
use Rattle.bm_merge.specs.Notes.{size_of, switched_since, controlled, IsLookAfter}

-- the fates of the notes
abbrev pub fates_of : List Note → List Fate
fates_of [] = []
fates_of (n ∷ notes) = n.fate ∷ fates_of notes

-- the note in its place by clock, newer than those of its clock
abbrev pub place_note : Note → List Note → List Note
place_note n [] = n ∷ []
place_note n (x ∷ past) = if leb x.event.clock.0 n.event.clock.0 then n ∷ x ∷ past else x ∷ place_note n past

-- the notes by clock, those of one clock in the order that they have
abbrev pub notes_by_clock : List Note → List Note
notes_by_clock [] = []
notes_by_clock (n ∷ notes) = place_note n (notes_by_clock notes)

-- the note is of the command of this number
abbrev pub is_part : ℕ → Note → Bool
is_part i n = is_command n.event.what && n.command == i

-- no later packet of the mux has arrived at the shard
abbrev pub AreInOrder : Stage → List Log → List Event → ℕ → ServerId → Type 0
AreInOrder stage logs rest k server =
    (m : MuxId) → is_some (label_of stage (named logs (MuxOf m.0)) k) ≡ true
    → IfSome (segment_of stage k)
    (λ s. counts rest
    (λ what. arrives_later stage (named logs (MuxOf m.0)) what server (shard stage s.flow) m.0 k) ≡ 0)

-- by one of the sendings of the packet and hop, a copy has this clock at a shard whose last clock is own
abbrev pub is_due_by : ℕ → Hop → ℕ → ℕ → Note → Bool
is_due_by k hop own clock n = sends n.event.what k hop && clock == next_clock own (n.event.clock.0 + n.fate.delay)

-- what is promised of the clock of an event, where own is its actor's last clock, after the rest of its log
abbrev pub IsPromised : Stage → List Log → List Note → List Event → ℕ → ℕ → ℕ → What → Type 0
IsPromised stage logs all rest i own clock (Publish v) =
    clock ≡ next_clock (top_clock (is_earlier i) all) (change_moment (next_change stage.script.plan (newest rest)))
IsPromised stage logs all rest i own clock Sync =
    ((m : ℕ) → m < stage.script.setting.muxes
    → 1 ≤ many
    (λ n. is_switch_of n.event.what m && (leb (sync_clock rest) n.event.clock.0 && ltb n.event.clock.0 clock))
    all)
    × (clock ≡ next_clock (top_clock (λ n. ltb n.event.clock.0 clock) all)
    (moment_at (slice_get stage.script.commands i)))
IsPromised stage logs all rest i own clock (Close server flow closed) =
    clock ≡ next_clock own (max (moment_at (slice_get stage.script.commands i)) (top_clock (is_earlier i) all))
IsPromised stage logs all rest i own clock (Retire server h at result) =
    (at.0 ≡ max (moment_at (slice_get stage.script.commands i)) (top_clock (is_earlier i) all))
    × (clock ≡ next_clock own at.0)
IsPromised stage logs all rest i own clock (Switch m v) =
    IsLookAfter (controlled logs clock) rest m v.0
    × (clock ≡ next_clock own
    (max (publish_clock (controlled logs clock) v.0) (sync_clock (controlled logs clock))))
IsPromised stage logs all rest i own clock (Steer k m) =
    (switched_since (sync_clock (controlled logs clock)) m.0 rest ≡ true)
    × (counts rest (λ what. steers_later what m k) ≡ 0) × (clock ≡ next_clock own (record_moment stage k))
IsPromised stage logs all rest i own clock (Arrive k hop server verdict) =
    AreInOrder stage logs rest k server × (1 ≤ many (is_due_by k hop own clock) all)
IsPromised stage logs all rest i own clock (Lose k hop) = Unit {0}

-- what is promised of a note, after the rest of its log
pub record IsTold (R : Routes) (F : Rules) (stage : Stage) (logs : List Log) (all : List Note) (rest : List Event)
    (n : Note) : Type 0 where
  -- it is of its command
  pub command : IsOf (slice_get stage.script.commands n.command) [] n.event.what
  -- earlier commands have lower clocks
  pub order : is_command n.event.what ≡ true
      → many (λ y. is_earlier n.command y && leb n.event.clock.0 y.event.clock.0) all ≡ 0
  -- a packet's event comes after as many Syncs as its phase says
  pub phase : IfSome (packet_of n.event.what)
      (λ k. counts (controlled logs n.event.clock.0) is_sync ≡ phase_of stage k)
  pub timed : IsPromised stage logs all rest n.command (last_own stage rest (actor_of stage n.event.what))
      n.event.clock.0 n.event.what
  -- the route and the impairment rule gave these answers
  pub routed : IsRouted R stage n.event.what
  pub fate : IfSome (sending_of n.event.what) (λ s. F s.packet s.hop n.fate)

-- what the workers promise of their logs together
pub record ArePromised (R : Routes) (F : Rules) (stage : Stage) (logs : List NotedLog) : Type 0 where
  pub agree : Agree stage (plain logs)
  pub told : AllByRecursion
      (λ l. AtEach (λ rest n. IsTold R F stage (plain logs) (all_notes logs) (events_of rest) n) l.notes) logs
  -- PACKETS
  pub steered : (k : ℕ)
      → many (λ n. steers_packet n.event.what k) (all_notes logs) ≡ (if is_some (segment_of stage k) then 1 else 0)
  -- a sending without copies, and no other, has one Lose, at its clock plus one
  pub lost : (k : ℕ) (hop : Hop) (clock : ℕ)
      → many (λ n. loses n.event.what k hop && n.event.clock.0 == suc clock) (all_notes logs)
      ≡ many (λ n. sends n.event.what k hop && (n.fate.copies == 0 && n.event.clock.0 == clock)) (all_notes logs)
  -- up to each clock at most as many copies arrived as were sent at lower clocks
  pub sent : (k : ℕ) (hop : Hop) (clock : ℕ)
      → many (λ n. arrives n.event.what k hop && leb n.event.clock.0 clock) (all_notes logs)
      ≤ total (λ n. if sends n.event.what k hop && ltb n.event.clock.0 clock then n.fate.copies else 0)
      (all_notes logs)
  pub arrived : (k : ℕ) (hop : Hop)
      → many (λ n. arrives n.event.what k hop) (all_notes logs)
      ≡ total (λ n. if sends n.event.what k hop then n.fate.copies else 0) (all_notes logs)
  -- COMMANDS
  -- each command has its events
  pub complete : (i : ℕ) → i < length stage.script.commands
      → many (is_part i) (all_notes logs) ≡ size_of stage.script.setting.shards (slice_get stage.script.commands i)
  -- a retire has each shard once
  pub shards : (i h : ℕ) → many (λ n. is_part i n && mark_of n.event.what == h) (all_notes logs) ≤ 1
  pub changes : newest (named (plain logs) Controller) ≡ length stage.script.plan.changes
  pub closes : (s : ServerId) (f : Flow)
      → many (λ n. closes_flow n.event.what s f) (all_notes logs)
      ≡ count_of (λ c. wants_close c s f) stage.script.commands
  pub retires : (s : ServerId) (h : ℕ) → h < stage.script.setting.shards
      → many (λ n. retires_shard n.event.what s h) (all_notes logs)
      ≡ count_of (λ c. wants_retire c s) stage.script.commands
  pub no_other : (s : ServerId) (h : ℕ) → stage.script.setting.shards ≤ h
      → many (λ n. retires_shard n.event.what s h) (all_notes logs) ≡ 0
  pub syncs : many (λ n. is_sync n.event.what) (all_notes logs) ≡ count_of wants_sync stage.script.commands
  -- THE END
  -- each mux has looked in the last phase
  pub looked : (m : ℕ) → m < stage.script.setting.muxes
      → 1 ≤ many
      (λ n. is_switch_of n.event.what m && leb (sync_clock (named (plain logs) Controller)) n.event.clock.0)
      (all_notes logs)
