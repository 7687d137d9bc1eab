-- What each worker of a threaded run promises of what it did, so that the logs merge into such a
-- run (docs/DEFINITIONS.md). Worker 0 carries out the commands, worker m + 1 the packets of mux m.
-- Each promise is about what the worker knows by itself: what it did, in its order, and what a mux
-- or a shard answered. What a worker did is a list of notes, over all logs.
use Rattle.std.specs.Prelude.{◌≡◌, ℕ, zero, suc, ◌+◌, ◌-◌, ◌<◌, ◌≤◌, max, Bool, true, false, ◌&&◌}
use Rattle.std.specs.Prelude.{◌==◌, nat_le, nat_lt}
use Rattle.std.specs.Prelude.{if◌then◌else◌, ◌⊎◌, List, [], ◌∷◌, ◌++◌, length, slice_get, Option}
use Rattle.std.specs.Prelude.{Some, None, IfSome, is_some}
use Rattle.std.specs.List.{AllByRecursion}
use Rattle.bm_base.specs.declared.ids.ServerId.{ServerId}
use Rattle.bm_base.specs.declared.flow.Flow.{Flow}
use Rattle.bm_base.specs.declared.label.Hop.{Hop}
use Rattle.bm_table.specs.declared.script.Command.{Command}
use Rattle.bm_table.specs.Tables.{next_change, change_moment}
use Rattle.bm_core.specs.declared.events.What.{What}
use Rattle.bm_core.specs.declared.events.What.TheVariants.{Publish, Switch, Steer, Lose, Arrive}
use Rattle.bm_core.specs.declared.events.What.TheVariants.{Close, Retire, Sync}
use Rattle.bm_core.specs.declared.events.Event.{Event}
use Rattle.bm_core.specs.declared.events.Stage.{Stage}
use Rattle.bm_core.specs.Past.{segment_of, sending_of, sends, newest, is_switch_of}
use Rattle.bm_core.specs.Runs.{Actor, actor_of, is_by, next_clock}
use Rattle.bm_core.specs.Runs.Actor.{Controller, MuxOf}
use Rattle.bm_core.specs.Accounts.{Routes, Rules, IsRouted, count_of, counts, steers_packet}
use Rattle.bm_core.specs.Accounts.{arrives, loses}
use Rattle.bm_core.specs.Accounts.{closes_flow, retires_shard, is_sync, wants_close, wants_retire}
use Rattle.bm_core.specs.Accounts.{wants_sync}
use Rattle.bm_core.specs.Stages.{IsSound}
use Rattle.bm_core.specs.Threads.{IsOf, last_own, is_command, moment_at, phase_of, record_moment}
use Rattle.bm_core.specs.Threads.{packet_of}
use Rattle.bm_core.specs.Threads.{sync_clock, steers_later}
use Rattle.bm_merge.specs.Merges.{AtEach, Log, named, has_actor, HaveOwnLogs, Agree}
use Rattle.bm_merge.specs.Notes.{Note, NotedLog, events_of, plain, all_notes, total, many}
use Rattle.bm_merge.specs.Notes.{top_clock, is_earlier, mark_of, look_moment}
use Rattle.bm_merge.specs.Notes.{size_of, switched_since, until, controlled, IsLookAfter}

-- P holds of each note of the logs, after the rest of its log
abbrev pub AtNotes : (List Note → Note → Type 0) → List NotedLog → Type 0
AtNotes P logs = AllByRecursion (λ l. AtEach P l.notes) logs

-- the last clock of the note's actor, in the rest of its log
abbrev pub own_before : Stage → List Note → Note → ℕ
own_before stage rest n = last_own stage (events_of rest) (actor_of stage n.event.what)

-- WHO DID WHAT

-- what worker w did, of all workers
abbrev pub notes_by : List (List Note) → ℕ → List Note
notes_by [] w = []
notes_by (d ∷ workers) zero = d
notes_by (d ∷ workers) (suc w) = notes_by workers w

-- all that the workers did
abbrev pub notes_of_all : List (List Note) → List Note
notes_of_all [] = []
notes_of_all (d ∷ workers) = d ++ notes_of_all workers

-- the actor in whose log a worker's event is: its own, and for a Lose the worker's mux
abbrev pub home_of : Stage → ℕ → What → Option Actor
home_of stage seat (Lose k hop) = Some (MuxOf (seat - 1))
home_of stage seat what = actor_of stage what

-- the note is in the actor's log
abbrev pub is_home : Stage → Actor → Note → Bool
is_home stage a n = is_by (home_of stage n.seat n.event.what) a

-- there is an actor, and it has a log
abbrev pub has_log : List Log → Option Actor → Bool
has_log logs None = false
has_log logs (Some a) = has_actor logs a

-- the notes of the seat
abbrev pub seat_part : ℕ → List Note → List Note
seat_part w [] = []
seat_part w (n ∷ notes) = if n.seat == w then n ∷ seat_part w notes else seat_part w notes

-- the notes that are in the actor's log
abbrev pub home_part : Stage → Actor → List Note → List Note
home_part stage a [] = []
home_part stage a (n ∷ notes) =
    if is_home stage a n then n ∷ home_part stage a notes else home_part stage a notes

-- the log's notes of each seat are what that worker did for this log, in its order
abbrev pub IsSeated : Stage → NotedLog → List (List Note) → Type 0
IsSeated stage l workers =
    (w : ℕ) → seat_part w l.notes ≡ home_part stage l.actor (notes_by workers w)

-- the same for all logs
abbrev pub AreSeated : Stage → List NotedLog → List (List Note) → Type 0
AreSeated stage logs workers = AllByRecursion (λ l. IsSeated stage l workers) logs

-- each note in the logs is of one of this many workers
abbrev pub HaveSeats : ℕ → List NotedLog → Type 0
HaveSeats workers logs = AllByRecursion (λ l. AllByRecursion (λ n. n.seat < workers) l.notes) logs

-- everything that was done has a log
abbrev pub HaveHomes : Stage → List NotedLog → List Note → Type 0
HaveHomes stage logs notes =
    AllByRecursion (λ n. has_log (plain logs) (home_of stage n.seat n.event.what) ≡ true) notes

-- MUXES AND SHARDS: how the actor of an event determines it. A mux does so by its look at the
-- board, a shard by the turn that the worker took there; own is the actor's last clock.

-- the event is an arrival of a later packet
abbrev pub arrives_after : ℕ → What → Bool
arrives_after k (Arrive packet hop server verdict) = nat_lt k packet
arrives_after k _ = false

-- what the actor gives, after the rest of its log, where control is the controller's whole log. A
-- Switch and a Steer see the controller's log up to their clock, and so the last Sync and the
-- version's Publish that the definition of a threaded run asks for. A shard's clock is the one
-- after its last clock and the moment that was passed to it; each worker passes its packets in
-- order.
abbrev pub IsGivenBy : Stage → List Event → List Note → ℕ → Note → What → Type 0
IsGivenBy stage control rest own n (Switch m v) =
    IsLookAfter (until n.event.clock.0 control) (events_of rest) m v.0
    × (n.event.clock.0 ≡ next_clock own (look_moment (until n.event.clock.0 control) v.0))
IsGivenBy stage control rest own n (Steer k m) =
    (switched_since (sync_clock (until n.event.clock.0 control)) m.0 (events_of rest) ≡ true)
    × (counts (events_of rest) (λ what. steers_later what m k) ≡ 0)
    × (n.event.clock.0 ≡ next_clock own (record_moment stage k))
IsGivenBy stage control rest own n (Arrive k hop server verdict) =
    (n.event.clock.0 ≡ next_clock own n.due)
    × (many (λ y. y.seat == n.seat && arrives_after k y.event.what) rest ≡ 0)
IsGivenBy stage control rest own n (Close server flow closed) =
    n.event.clock.0 ≡ next_clock own n.due
IsGivenBy stage control rest own n (Retire server h at result) =
    n.event.clock.0 ≡ next_clock own at.0
IsGivenBy stage control rest own n _ = Unit {0}

-- the same, with the controller's log among these logs
abbrev pub IsGiven : Stage → List Log → List Note → ℕ → Note → What → Type 0
IsGiven stage logs rest own n what = IsGivenBy stage (named logs Controller) rest own n what

-- WORKER 0: the commands, one after another. Its clock at a command is the greatest of those of
-- earlier commands, which it knows from what it did itself.

-- the note's command
abbrev pub command_of : Stage → Note → Option Command
command_of stage n = slice_get stage.script.commands n.command

-- worker 0's clock at the note's command, after what it did before
abbrev pub clock_before : List Note → Note → ℕ
clock_before rest n = top_clock (is_earlier n.command) rest

-- the greater of the moment of the note's command and worker 0's clock
abbrev pub moment_before : Stage → List Note → Note → ℕ
moment_before stage rest n = max (moment_at (command_of stage n)) (clock_before rest n)

-- the clock, or the moment, of a command's event after what worker 0 did before it
abbrev pub IsMeant : Stage → List Note → Note → What → Type 0
IsMeant stage rest n (Publish v) =
    (u : ℕ) × (v.0 ≡ suc u)
    × (n.event.clock.0
    ≡ next_clock (clock_before rest n) (change_moment (next_change stage.script.plan u)))
IsMeant stage rest n (Close server flow closed) =
    (n.due ≡ moment_before stage rest n) × (n.due < n.event.clock.0)
IsMeant stage rest n (Retire server h at result) =
    (at.0 ≡ moment_before stage rest n) × (at.0 < n.event.clock.0)
IsMeant stage rest n Sync = clock_before rest n < n.event.clock.0
IsMeant stage rest n _ = ⊥

-- the notes are of one command, and of one shard if it is a retire
abbrev pub is_same_part : Note → Note → Bool
is_same_part n y = y.command == n.command && mark_of y.event.what == mark_of n.event.what

-- what worker 0 did, after what it did before
pub record IsCommanded (stage : Stage) (rest : List Note) (n : Note) : Type 0 where
  pub kind : is_command n.event.what ≡ true
  pub command : IsOf (command_of stage n) [] n.event.what
  -- the commands come in the script's order
  pub order : AllByRecursion (λ y. y.command ≤ n.command) rest
  -- each shard of a retire comes once
  pub once : many (is_same_part n) rest ≡ 0
  pub meant : IsMeant stage rest n n.event.what

-- what worker 0 did, to the end
pub record IsController (stage : Stage) (notes : List Note) : Type 0 where
  pub each : AtEach (IsCommanded stage) notes
  -- each command has all its events
  pub complete : (i : ℕ) → i < length stage.script.commands
      → many (λ n. n.command == i) notes
      ≡ size_of stage.script.setting.shards (slice_get stage.script.commands i)
  -- the events of each kind are as many as the account asks for
  pub closes : (s : ServerId) (f : Flow)
      → many (λ n. closes_flow n.event.what s f) notes
      ≡ count_of (λ c. wants_close c s f) stage.script.commands
  pub retires : (s : ServerId) (h : ℕ) → h < stage.script.setting.shards
      → many (λ n. retires_shard n.event.what s h) notes
      ≡ count_of (λ c. wants_retire c s) stage.script.commands
  pub no_other : (s : ServerId) (h : ℕ) → stage.script.setting.shards ≤ h
      → many (λ n. retires_shard n.event.what s h) notes ≡ 0
  pub syncs : many (λ n. is_sync n.event.what) notes ≡ count_of wants_sync stage.script.commands

-- WORKER m + 1: the packets of mux m. It steers a packet, draws its fate, and delivers its copies,
-- or loses it; the same where a copy is forwarded. So it knows for each sending what became of it.

-- the event is one of those of worker m + 1
abbrev pub carries : ℕ → What → Bool
carries m (Switch x v) = x.0 == m
carries m (Steer k x) = x.0 == m
carries m (Arrive k hop server verdict) = true
carries m (Lose k hop) = true
carries m _ = false

-- the note is of a sending of the packet and hop whose copies are due at this moment
abbrev pub is_due_at : ℕ → Hop → ℕ → Note → Bool
is_due_at k hop due n = sends n.event.what k hop && due == n.event.clock.0 + n.fate.delay

-- an arrival is of a packet that the worker steered, and is due by a sending of the worker
abbrev pub HasSending : List Note → Note → What → Type 0
HasSending notes n (Arrive k hop server verdict) =
    (1 ≤ many (λ y. steers_packet y.event.what k) notes) × (1 ≤ many (is_due_at k hop n.due) notes)
HasSending notes n _ = Unit {0}

-- the note is a Lose of the packet and hop at this clock
abbrev pub is_lost : ℕ → Hop → ℕ → Note → Bool
is_lost k hop clock n = loses n.event.what k hop && n.event.clock.0 == clock

-- it is a sending of the packet and hop at this clock, without copies
abbrev pub is_copyless : ℕ → Hop → ℕ → Note → Bool
is_copyless k hop clock n =
    sends n.event.what k hop && (n.fate.copies == 0 && n.event.clock.0 == clock)

-- it is an arrival of the packet and hop up to this clock
abbrev pub has_come : ℕ → Hop → ℕ → Note → Bool
has_come k hop clock n = arrives n.event.what k hop && nat_le n.event.clock.0 clock

-- how many copies of the packet and hop it sends below this clock
abbrev pub copies_below : ℕ → Hop → ℕ → Note → ℕ
copies_below k hop clock n =
    if sends n.event.what k hop && nat_lt n.event.clock.0 clock then n.fate.copies else 0

-- how many it sends
abbrev pub copies_in : ℕ → Hop → Note → ℕ
copies_in k hop n = if sends n.event.what k hop then n.fate.copies else 0

-- the impairment rule may give the fate
abbrev pub IsDrawn : Rules → Note → Type 0
IsDrawn F n = IfSome (sending_of n.event.what) (λ s. F s.packet s.hop n.fate)

-- and the route may give the mux
abbrev pub IsAnswer : Routes → Rules → Stage → Note → Type 0
IsAnswer R F stage n =
    IsRouted R stage n.event.what × IsDrawn F n

-- what worker m + 1 did, to the end
pub record IsCarrier (R : Routes) (F : Rules) (stage : Stage) (m : ℕ) (notes : List Note)
    : Type 0 where
  pub kinds : AllByRecursion (λ n. carries m n.event.what ≡ true) notes
  pub has_sending : AllByRecursion (λ n. HasSending notes n n.event.what) notes
  pub answers : AllByRecursion (IsAnswer R F stage) notes
  -- a sending without copies, and no other, has one Lose, at its clock plus one
  pub lost : (k : ℕ) (hop : Hop) (clock : ℕ)
      → many (is_lost k hop (suc clock)) notes ≡ many (is_copyless k hop clock) notes
  -- up to each clock at most as many copies arrived as were sent at lower clocks
  pub sent : (k : ℕ) (hop : Hop) (clock : ℕ)
      → many (has_come k hop clock) notes ≤ total (copies_below k hop clock) notes
  -- and in the end as many arrived as were sent
  pub arrived : (k : ℕ) (hop : Hop)
      → many (λ n. arrives n.event.what k hop) notes ≡ total (copies_in k hop) notes

-- TOGETHER: at each Sync all workers have done the phase, and worker 0 learns the greatest clock of
-- all

-- the note is a Switch of the mux, at this clock or later
abbrev pub looks_since : ℕ → ℕ → Note → Bool
looks_since m since y = is_switch_of y.event.what m && nat_le since y.event.clock.0

-- the note's clock is lower
abbrev pub is_below : ℕ → Note → Bool
is_below clock y = nat_lt y.event.clock.0 clock

-- the note is a Switch of the mux, at the first clock or later and below the second
abbrev pub looks_between : ℕ → ℕ → ℕ → Note → Bool
looks_between m since clock y =
    is_switch_of y.event.what m && (nat_le since y.event.clock.0 && is_below clock y)

-- since the last Sync and before this one each mux has looked; the clock is the one after all lower
-- clocks and the command's moment
abbrev pub IsMet : Stage → List Note → List Event → Note → What → Type 0
IsMet stage all rest n Sync =
    ((m : ℕ) → m < stage.script.setting.muxes
    → 1 ≤ many (looks_between m (sync_clock rest) n.event.clock.0) all)
    × (n.event.clock.0
    ≡ next_clock (top_clock (is_below n.event.clock.0) all) (moment_at (command_of stage n)))
IsMet stage all rest n _ = Unit {0}

-- a packet's event comes after as many Syncs as its phase requires
abbrev pub IsInItsPhase : Stage → List Log → Note → Type 0
IsInItsPhase stage logs n =
    IfSome (packet_of n.event.what)
    (λ k. counts (controlled logs n.event.clock.0) is_sync ≡ phase_of stage k)

-- the workers did all of the stage, and these are its logs
pub record ArePromises (R : Routes) (F : Rules) (stage : Stage) (logs : List NotedLog)
    (controller : List Note) (carriers : List (List Note)) : Type 0 where
  pub agree : Agree stage (plain logs)
  -- each mux has a worker
  pub muxes : length carriers ≡ stage.script.setting.muxes
  -- the logs have exactly what the workers did
  pub seated : AreSeated stage logs (controller ∷ carriers)
  pub seats : HaveSeats (suc (length carriers)) logs
  pub homes : HaveHomes stage logs (notes_of_all (controller ∷ carriers))
  -- what each mux and each shard determines
  pub given : AtNotes
      (λ rest n. IsGiven stage (plain logs) rest (own_before stage rest n) n n.event.what) logs
  -- what each worker did
  pub controls : IsController stage controller
  pub carried : (m : ℕ) → m < length carriers → IsCarrier R F stage m (notes_by carriers m)
  -- each steerable record is steered once, by one of the workers, and no other is
  pub steered : (k : ℕ)
      → many (λ n. steers_packet n.event.what k) (notes_of_all carriers)
      ≡ (if is_some (segment_of stage k) then 1 else 0)
  pub phases : AllByRecursion (IsInItsPhase stage (plain logs)) (notes_of_all carriers)
  pub met : AtNotes (λ rest n. IsMet stage (all_notes logs) (events_of rest) n n.event.what) logs
  -- all changes are published
  pub changes : newest (named (plain logs) Controller) ≡ length stage.script.plan.changes
  -- each mux has looked in the last phase too
  pub looked : (m : ℕ) → m < stage.script.setting.muxes
      → 1 ≤ many (looks_since m (sync_clock (named (plain logs) Controller))) (all_notes logs)

-- AT EVERY MOMENT: what holds before the end, and when a worker has given up

-- c is 0, or a lower clock of these notes
abbrev pub IsBefore : List Note → ℕ → ℕ → Type 0
IsBefore all clock c = (c ≡ 0) ⊎ ((c < clock) × (1 ≤ many (λ y. y.event.clock.0 == c) all))

-- where the clock of an event comes from; own is its actor's last clock. That of a Publish is part
-- of what worker 0 did
abbrev pub IsClocked : Stage → List Note → ℕ → Note → What → Type 0
IsClocked stage all own n (Switch m v) =
    (post : ℕ) × (sync : ℕ) × IsBefore all n.event.clock.0 post × IsBefore all n.event.clock.0 sync
    × (n.event.clock.0 ≡ next_clock own (max post sync))
IsClocked stage all own n (Steer k m) = n.event.clock.0 ≡ next_clock own (record_moment stage k)
IsClocked stage all own n (Arrive k hop server verdict) = n.event.clock.0 ≡ next_clock own n.due
IsClocked stage all own n (Close server flow closed) = n.event.clock.0 ≡ next_clock own n.due
IsClocked stage all own n (Retire server h at result) = n.event.clock.0 ≡ next_clock own at.0
IsClocked stage all own n Sync =
    (top : ℕ) × IsBefore all n.event.clock.0 top
    × (n.event.clock.0 ≡ next_clock top (moment_at (command_of stage n)))
IsClocked stage all own n (Lose k hop) =
    (sending : ℕ) × IsBefore all n.event.clock.0 sending × (n.event.clock.0 ≡ sending + 1)
IsClocked stage all own n (Publish v) = Unit {0}

-- what worker 0 did by the script
pub record IsUnderway (stage : Stage) (rest : List Note) (n : Note) : Type 0 where
  pub kind : is_command n.event.what ≡ true
  pub meant : IsMeant stage rest n n.event.what

-- worker m + 1 did this, where `notes` is all that it did
abbrev pub IsCarried : ℕ → List Note → Note → Type 0
IsCarried m notes n = (carries m n.event.what ≡ true) × HasSending notes n n.event.what

-- what holds of the logs and the workers while the run is in progress, also once a worker has given
-- up.
pub record AreUnderway (F : Rules) (stage : Stage) (logs : List NotedLog) (controller : List Note)
    (carriers : List (List Note)) : Type 0 where
  pub sound : IsSound stage
  pub actors : HaveOwnLogs (plain logs)
  pub seated : AreSeated stage logs (controller ∷ carriers)
  pub homes : HaveHomes stage logs (notes_of_all (controller ∷ carriers))
  pub clocked : AtNotes
      (λ rest n. IsClocked stage (all_notes logs) (own_before stage rest n) n n.event.what) logs
  pub controls : AtEach (IsUnderway stage) controller
  pub carried : (m : ℕ) → m < length carriers
      → AllByRecursion (IsCarried m (notes_by carriers m)) (notes_by carriers m)
  pub answers : (m : ℕ) → m < length carriers → AllByRecursion (IsDrawn F) (notes_by carriers m)
