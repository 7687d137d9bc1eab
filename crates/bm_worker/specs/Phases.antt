-- What a mux's worker promises of one phase: the time between two Syncs, in which it carries the
-- mux's packets of that phase. Its notes have the newest first.
use Rattle.std.specs.Prelude.{◌≡◌, ℕ, suc, ◌+◌, ◌-◌, ◌*◌, ◌^◌, ◌<◌, ◌≤◌, ◌==◌, max, Bool, true}
use Rattle.std.specs.Prelude.{false, MatchBool}
use Rattle.std.specs.Prelude.{if◌then◌else◌, List, ◌++◌, length, reverse, slice_get, Option, Some}
use Rattle.std.specs.Prelude.{None, IfSome}
use Rattle.std.specs.List.{AllByRecursion}
use Rattle.bm_base.specs.declared.ids.MuxId.{MuxId}
use Rattle.bm_base.specs.declared.label.Label.{Label}
use Rattle.bm_base.specs.Labels.{tag_of}
use Rattle.bm_core.specs.declared.events.Event.{Event}
use Rattle.bm_core.specs.declared.events.Stage.{Stage}
use Rattle.bm_core.specs.declared.events.What.{What}
use Rattle.bm_core.specs.declared.events.What.TheVariants.{Arrive, Lose, Steer, Switch}
use Rattle.bm_core.specs.Accounts.{Rules, counts, steers_packet}
use Rattle.bm_core.specs.Past.{is_switch_of, label_of, segment_of, shard, version_at}
use Rattle.bm_core.specs.Runs.{AtEach, next_clock}
use Rattle.bm_core.specs.Runs.Actor.{MuxOf}
use Rattle.bm_core.specs.Threads.{last_own, packet_of, record_moment, steers_later}
use Rattle.bm_merge.specs.Notes.{Note, events_of, greatest, many, switched_since}
use Rattle.bm_merge.specs.Workers.{IsCarrier, IsDrawn, HasSending, arrives_after, carries, home_part}
use Rattle.bm_merge.specs.Workers.{is_copyless}
use Rattle.bm_shard.specs.declared.calls.ShardCall.{ShardCall}
use Rattle.bm_shard.specs.declared.calls.ShardCall.TheVariants.{Arrive as Arrives}
use Rattle.bm_server.specs.Servings.{Serving}
use Rattle.bm_server.specs.Seats.{Answered, Seated}
use Rattle.bm_publish.specs.Posts.{Continues, Posted, last_version}
use Rattle.bm_mux.specs.Muxes.{IsOwn, IsSameMux, post_clock}
use Rattle.bm_worker.specs.declared.span.Span.{Span}
use Rattle.bm_worker.specs.declared.stop.Stop.{Stop}
use Rattle.bm_worker.specs.declared.stop.Stop.TheVariants.{Memory, Late}
use Rattle.bm_worker.specs.declared.worker.MuxWorker.{MuxWorker}
use Rattle.bm_worker.specs.WorkerNotes.{HasServer, GetReplies, IsSameCaller, HasSeats, clock_of}
use Rattle.bm_worker.specs.SeatCalls.{calls_there}
use Rattle.bm_worker.specs.Assigned.{RoutedBy, is_assigned}

-- HOW MUCH A PACKET MAY LEAD TO

-- arrivals: 3 of direct copies, 9 of chained ones, and 27 of twice-chained ones
abbrev pub tries_per_packet : ℕ
tries_per_packet = 39

-- entries of the mux's log: a Switch, the Steer, and 9 losses
abbrev pub entries_per_packet : ℕ
entries_per_packet = 11

-- notes: a Switch, the Steer, and its arrivals; a loss may come in place of some of these
abbrev pub notes_per_packet : ℕ
notes_per_packet = 41

-- one worker's part of a phase
pub record Task : Type 0 where
  -- the mux of each packet
  pub routes : List (Option MuxId)
  -- the phase's packets are those of the records at the places from..until
  pub from : ℕ
  pub until : ℕ
  -- the clock of the Sync before it, or 0
  pub after : ℕ
  -- what was posted before it
  pub posted : Posted
  -- the worker before it
  pub start : MuxWorker

abbrev pub task_of : List (Option MuxId) → Span → Posted → MuxWorker → Task
task_of routes span posted start = record {
  routes = routes;
  from = span.from;
  until = span.until;
  after = span.after.0;
  posted = posted;
  start = start;
}

abbrev pub mux_for : Task → MuxId
mux_for task = task.start.mux.id

-- WHAT THE MUX LOGS

-- what these notes say about the log of the mux m
abbrev pub mux_log : Stage → ℕ → List Note → List Event
mux_log stage m notes = events_of (home_part stage (MuxOf m) notes)

-- an event of a mux, after the rest of its log, in a phase that begins at the clock after and with
-- the version first, where the mux was shown these posts: the first Switch of the phase is to a
-- version no older than the mux's own and than first, each later one to a newer one; the packets'
-- numbers rise
abbrev pub IsMuxGiven : Stage → ℕ → ℕ → List ℕ → List Event → ℕ → What → Type 0
IsMuxGiven stage after first posts rest clock (Switch m v) =
    MatchBool (switched_since after m.0 rest) ((version_at rest m).0 < v.0)
    ((first ≤ v.0) × ((version_at rest m).0 ≤ v.0))
    × ((post : ℕ) × (post_clock posts v.0 ≡ Some post)
    × (clock ≡ next_clock (last_own stage rest (Some (MuxOf m.0))) (max post after)))
IsMuxGiven stage after first posts rest clock (Steer k m) =
    (switched_since after m.0 rest ≡ true)
    × (counts rest (λ what. steers_later what m k) ≡ 0)
    × (clock ≡ next_clock (last_own stage rest (Some (MuxOf m.0))) (record_moment stage k))
IsMuxGiven stage after first posts rest clock _ = Unit {0}

-- THE CALLS TO THE SHARDS

-- a copy of a packet with the tag of the label that its mux gave it, for this server and its flow's
-- shard
abbrev pub IsCopyCall : Stage → List Event → MuxId → Serving → ℕ → ShardCall → Type 0
IsCopyCall stage past m server h (Arrives packet tag segment due) =
    (segment_of stage packet ≡ Some segment) × (shard stage segment.flow ≡ h)
    × ((label : Label) × (label.mux ≡ m) × (label_of stage past packet ≡ Some label)
    × (tag_of label tag.hop ≡ Some tag) × (tag.dest ≡ server.id))
IsCopyCall stage past m server h _ = ⊥

-- all calls that these seats made are of such copies, by the mux's log `past`
abbrev pub AreCopies : Stage → MuxId → List Serving → List Event → List (List Seated) → Type 0
AreCopies stage m servers past seats =
    (s h : ℕ) (server : Serving) → slice_get servers s ≡ Some server
    → AllByRecursion (λ (a : Answered). IsCopyCall stage past m server h a.0) (calls_there seats s h)

-- EACH NOTE

-- no arrival of a later packet comes before an arrival of a packet
abbrev pub IsInOrder : List Note → What → Type 0
IsInOrder rest (Arrive k hop server verdict) = many (λ y. arrives_after k y.event.what) rest ≡ 0
IsInOrder rest _ = Unit {0}

abbrev pub is_steer : What → Bool
is_steer (Steer k m) = true
is_steer _ = false

-- a Steer is of one of the mux's packets
abbrev pub IsAssigned : Task → What → Type 0
IsAssigned task (Steer k m) =
    is_assigned task.routes (mux_for task).0 task.from task.until k ≡ true
IsAssigned task _ = Unit {0}

-- a Lose has its sending, without copies, at the clock before
abbrev pub IsLossOf : List Note → ℕ → What → Type 0
IsLossOf notes clock (Lose k hop) =
    (sending : ℕ) × (clock ≡ suc sending) × (1 ≤ many (is_copyless k hop sending) notes)
IsLossOf notes clock _ = Unit {0}

-- an arrival is at one of the servers
abbrev pub IsPlaced : List Serving → What → Type 0
IsPlaced servers (Arrive k hop server verdict) = HasServer servers server
IsPlaced servers _ = Unit {0}

-- one of the notes of the phase, where `notes` is all of them
pub record IsPhaseNote (F : Rules) (stage : Stage) (servers : List Serving) (task : Task)
    (notes : List Note) (n : Note) : Type 0 where
  pub kind : carries (mux_for task).0 n.event.what ≡ true
  pub seat : n.seat ≡ (mux_for task).0 + 1
  -- its clock is above that of the Sync
  pub later : task.after < n.event.clock.0
  pub within : IfSome (packet_of n.event.what) (λ k. (task.from < k) × (k ≤ task.until))
  pub assigned : IsAssigned task n.event.what
  pub has_sending : HasSending notes n n.event.what
  pub lost : IsLossOf notes n.event.clock.0 n.event.what
  pub drawn : IsDrawn F n
  pub placed : IsPlaced servers n.event.what

-- THE PHASE

-- what holds at every moment of a phase, and of what was done if a worker gives up
pub record Kept (F : Rules) (stage : Stage) (servers : List Serving) (task : Task)
    (now : MuxWorker) (notes : List Note) : Type 0 where
  pub each : AllByRecursion (IsPhaseNote F stage servers task notes) notes
  pub ordered : AtEach (λ rest n. IsInOrder rest n.event.what) notes
  -- the mux's log grew by exactly these notes' events
  pub logged : reverse now.mux.log
      ≡ mux_log stage (mux_for task).0 notes ++ reverse task.start.mux.log
  pub gives : AtEach
      (λ rest e. IsMuxGiven stage task.after (last_version task.posted) now.mux.seen.clocks
      (rest ++ reverse task.start.mux.log) e.clock.0 e.what)
      (mux_log stage (mux_for task).0 notes)
  -- the seats' calls and replies grew likewise
  pub replies : GetReplies stage servers task.start.caller.seats now.caller.seats notes
  pub copies : AreCopies stage (mux_for task) servers (reverse task.start.mux.log)
      task.start.caller.seats
      → AreCopies stage (mux_for task) servers (reverse now.mux.log) now.caller.seats
  -- the greatest clock exactly
  pub latest : now.caller.latest ≡ max task.start.caller.latest (greatest clock_of notes)
  pub mux : IsSameMux task.start.mux now.mux
  pub caller : IsSameCaller task.start.caller now.caller

-- besides the first Switch, at most as many notes as the packets may lead to
abbrev pub AreFew : List Note → Type 0
AreFew notes = length notes ≤ notes_per_packet * many (λ n. is_steer n.event.what) notes + 1

-- what a worker did in a phase, to its end
pub record Phase (F : Rules) (stage : Stage) (servers : List Serving) (task : Task)
    (now : MuxWorker) (notes : List Note) : Type 0 where
  pub kept : Kept F stage servers task now notes
  -- every sending has its copies, or its Lose
  pub carrier : IsCarrier (RoutedBy task.routes) F stage (mux_for task).0 notes
  -- the mux looked at what was posted before the phase, or later
  pub looked : 1 ≤ many (λ n. is_switch_of n.event.what (mux_for task).0) notes
  pub learned : Continues task.posted now.mux.seen
  -- each of the mux's packets is steered once, and no other packet is
  pub steered : (k : ℕ) → many (λ n. steers_packet n.event.what k) notes
      ≡ (if is_assigned task.routes (mux_for task).0 task.from task.until k then 1 else 0)
  pub few : AreFew notes

-- why the worker gave up: memory, or a moment that was too large, which came from the clock of one
-- of its notes
abbrev pub IsStopOf : List Note → Stop → Type 0
IsStopOf notes Memory = Unit {0}
IsStopOf notes (Late moment clock) =
    (9 * 10 ^ 18 < moment.0) × (moment.0 ≤ clock.0 + 60 * 10 ^ 9)
    × (1 ≤ many (λ n. n.event.clock.0 == clock.0) notes)

-- THE WORKER

-- an event in the mux's log from before the phase
pub record IsOlder (m : MuxId) (from after : ℕ) (e : Event) : Type 0 where
  pub own : IsOwn m e.what
  pub packet : IfSome (packet_of e.what) (λ k. k ≤ from)
  pub clock : e.clock.0 < after

-- the worker may begin its part of the phase
pub record IsReady (stage : Stage) (servers : List Serving) (task : Task) : Type 0 where
  pub until : (task.from ≤ task.until) × (task.until ≤ length stage.capture.records)
  pub after : task.after ≤ 9 * 10 ^ 18
  pub has_seats : HasSeats servers task.start.caller
  pub mux : (mux_for task).0 < 64
  pub number : task.start.caller.number ≡ (mux_for task).0 + 1
  pub posted : task.posted.board ≡ task.start.mux.seen.board
  pub plan : task.start.mux.seen.plan ≡ stage.script.plan
  pub older : AllByRecursion (IsOlder (mux_for task) task.from task.after) task.start.mux.log
  pub tries : task.start.caller.tries + tries_per_packet * (task.until - task.from) ≤ 4294967295
  pub steps : task.start.steps + (task.until - task.from) ≤ 4294967295
  pub room : length task.start.mux.log + entries_per_packet * (task.until - task.from) + 1 < 2 ^ 48

-- how much the worker's counts may rise in the phase
pub record HasGrown (task : Task) (now : MuxWorker) : Type 0 where
  pub tries : now.caller.tries ≤ task.start.caller.tries + tries_per_packet * (task.until - task.from)
  pub steps : now.steps ≤ task.start.steps + (task.until - task.from)
  pub log : length now.mux.log ≤ length task.start.mux.log + entries_per_packet * (task.until - task.from) + 1

-- the phase is done, or the worker gave up in it
abbrev pub HasEnded : Rules → Stage → List Serving → Task → MuxWorker → Option Stop → Type 0
HasEnded F stage servers task now None =
    (notes : List Note) × Phase F stage servers task now notes
HasEnded F stage servers task now (Some stop) =
    (notes : List Note) × Kept F stage servers task now notes × IsStopOf notes stop × AreFew notes

-- unless it has given up, the worker knows what is posted, and may begin
abbrev pub CanWork : Stage → List Serving → List (Option MuxId) → Span → MuxWorker → Type 0
CanWork stage servers routes span w =
    w.stop ≡ None → (posted : Posted) × (w.posted ≡ Some posted)
    × IsReady stage servers (task_of routes span posted w)

-- it did its part of the phase; a worker that had given up did nothing
pub record HasWorked (F : Rules) (stage : Stage) (servers : List Serving)
    (routes : List (Option MuxId)) (span : Span)
    (old new : MuxWorker) : Type 0 where
  pub idle : (stop : Stop) → old.stop ≡ Some stop → new ≡ old
  pub ended : (posted : Posted) → old.stop ≡ None → old.posted ≡ Some posted
      → HasEnded F stage servers (task_of routes span posted old) new new.stop
  pub grown : (posted : Posted) → old.stop ≡ None → old.posted ≡ Some posted
      → HasGrown (task_of routes span posted old) new
