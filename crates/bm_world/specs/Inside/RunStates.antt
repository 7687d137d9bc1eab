-- A run between two phases, after the last one, and after a worker has given up, as the code has
-- it. Only the proofs of bodies use this.
use Rattle.std.specs.Prelude.{◌≡◌, ◌⊎◌, ℕ, suc, ◌+◌, ◌-◌, ◌*◌, ◌^◌, ◌≤◌, max, List, [], ◌∷◌}
use Rattle.std.specs.Prelude.{length, map, slice_get, Option, Some, None}
use Rattle.std.specs.Prelude.{Result, Ok, Err, Bool, true, false, MatchBool}
use Rattle.std.specs.List.{AllByRecursion, list_any}
use mathlib.Core.List.{IsPrefix}
use Rattle.bm_base.specs.declared.ids.Moment.{Moment}
use Rattle.bm_base.specs.declared.ids.MuxId.{MuxId}
use Rattle.bm_core.specs.declared.events.Event.{Event}
use Rattle.bm_core.specs.declared.events.Stage.{Stage}
use Rattle.bm_core.specs.declared.events.History.{History}
use Rattle.bm_core.specs.Accounts.{Routes, Rules}
use Rattle.bm_core.specs.Threads.{IsThreadedRun}
use Rattle.bm_merge.specs.Merges.{joined}
use Rattle.bm_merge.specs.Rising.{in_order}
use Rattle.bm_merge.specs.Notes.{Note}
use Rattle.bm_server.specs.Seats.{Seated, most_turns}
use Rattle.bm_server.specs.Servings.{Serving}
use Rattle.bm_publish.specs.Posts.{Posted}
use Rattle.bm_worker.specs.WorkerNotes.{AreServersOf}
use Rattle.bm_worker.specs.Phases.{HasWorked}
use Rattle.bm_worker.specs.Assigned.{RoutedBy}
use Rattle.bm_worker.specs.declared.span.Span.{Span}
use Rattle.bm_worker.specs.declared.stop.Stop.{Stop}
use Rattle.bm_worker.specs.declared.stop.Stop.TheVariants.{Late, Memory}
use Rattle.bm_worker.specs.declared.worker.MuxWorker.{MuxWorker}
use Rattle.bm_lead.specs.declared.leader.Leader.{Leader}
use Rattle.bm_lead.specs.Leaders.{IsReady, IsStopFrom}
use Rattle.bm_lead.specs.Leads.{HasSynced, IsLed, IsPlaced}
use Rattle.bm_world.specs.declared.phase.Next.{Next}
use Rattle.bm_world.specs.declared.phase.Next.TheVariants.{Phase, End, Late as TooLate}
use Rattle.bm_world.specs.Inside.GivenUp.{HasGivenUp}
use Rattle.bm_world.specs.Inside.Running.{AreApart, AreAtWork, HaveLooked, HaveReplies, IsAtPhase}

-- WORKERS

-- seats that have made no turn
abbrev pub HaveNoTurns : List (List Seated) → Type 0
HaveNoTurns seats = (s : ℕ) (seat : List Seated) → slice_get seats s ≡ Some seat
    → most_turns seat ≡ 0

-- the worker of mux m before its first phase
pub record IsNewWorker (look : Posted) (seats : List (List Seated)) (m : ℕ) (w : MuxWorker) : Type
    0 where
  pub mux : w.mux ≡ record { id = record { 0 = m }; seen = look; log = [] }
  pub caller : w.caller ≡ record { number = m + 1; seats = seats; tries = 0; latest = 0 }
  pub steps : w.steps ≡ 0
  pub stop : w.stop ≡ None

-- the worker, once it knows what is posted
abbrev pub with_posts : Posted → MuxWorker → MuxWorker
with_posts posted w = record w { posted = Some posted }

-- each worker's seats
abbrev pub rows_of : List (List Seated) → List MuxWorker → List (List (List Seated))
rows_of leader workers = leader ∷ map (λ w. w.caller.seats) workers

-- the greatest clock of what these workers did
abbrev pub latest_in : List MuxWorker → ℕ
latest_in [] = 0
latest_in (w ∷ workers) = max w.caller.latest (latest_in workers)

-- BETWEEN TWO PHASES

-- what the workers did, after p Syncs, with the records before the place `until` carried
pub record IsStanding (F : Rules) (stage : Stage) (servers : List Serving)
    (routes : List (Option MuxId)) (posted : Posted) (leader : Leader) (workers : List MuxWorker)
    (p phases until : ℕ) (controller : List Note) (carriers : List (List Note)) : Type 0 where
  pub muxes : length workers ≡ stage.script.setting.muxes
  pub ready : IsReady stage servers posted leader
  pub led : IsLed stage posted leader controller
  pub replies : HaveReplies stage servers leader.caller.seats controller
  pub placed : AllByRecursion (λ n. IsPlaced stage servers n.event.what) controller
  pub at_work : AreAtWork (RoutedBy routes) F stage servers routes posted.board p phases until
      workers controller carriers

-- between two phases: the next one's records are at the places from here on
pub record IsBetween (F : Rules) (stage : Stage) (servers : List Serving)
    (routes : List (Option MuxId)) (posted : Posted) (leader : Leader) (workers : List MuxWorker)
    (start : ℕ) : Type 0 where
  pub p : ℕ
  pub controller : List Note
  pub carriers : List (List Note)
  pub standing : IsStanding F stage servers routes posted leader workers p p start controller carriers
  pub apart : AreApart stage leader.caller.latest leader.published.0 controller carriers
  pub at_phase : IsAtPhase stage leader.next p start
  pub within : start ≤ length stage.capture.records
  pub early : leader.caller.latest ≤ 9 * 10 ^ 18

-- after the last phase
pub record IsThrough (F : Rules) (stage : Stage) (servers : List Serving)
    (routes : List (Option MuxId)) (posted : Posted) (leader : Leader) (workers : List MuxWorker) : Type
    0 where
  pub p : ℕ
  pub phases : ℕ
  pub controller : List Note
  pub carriers : List (List Note)
  pub standing : IsStanding F stage servers routes posted leader workers p phases
      (length stage.capture.records) controller carriers
  pub looked : HaveLooked stage controller carriers
  pub done : leader.next ≡ length stage.script.commands

-- A PHASE

-- each worker did its part of a phase
abbrev pub HaveWorked : Rules → Stage → List Serving → List (Option MuxId) → Span
    → List MuxWorker → List MuxWorker → Type 0
HaveWorked F stage servers routes span old now =
    (m : ℕ) (x y : MuxWorker) → slice_get old m ≡ Some x → slice_get now m ≡ Some y
    → HasWorked F stage servers routes span x y

-- AFTER A WORKER HAS GIVEN UP

-- memory was refused
abbrev pub wants_memory : Option Stop → Bool
wants_memory (Some Memory) = true
wants_memory _ = false

-- why worker 0 gave up, if it did
abbrev pub stop_in : Result (Unit {0}) Stop → Option Stop
stop_in (Ok u) = None
stop_in (Err stop) = Some stop

-- one of the workers stopped in this way
abbrev pub one_stopped : (Option Stop → Bool) → List MuxWorker → Bool
one_stopped test workers = list_any (λ w. test w.stop) workers

-- none gave up
abbrev pub HaveNotStopped : List MuxWorker → Type 0
HaveNotStopped workers = (m : ℕ) (w : MuxWorker) → slice_get workers m ≡ Some w → w.stop ≡ None

-- a moment was too large
abbrev pub IsTooLate : Option Stop → Type 0
IsTooLate (Some (Late moment clock)) = Unit {0}
IsTooLate _ = ⊥

-- no worker gave up because memory was refused, but one did for a moment that was too large
pub record IsLate (led : Result (Unit {0}) Stop) (workers : List MuxWorker) : Type 0 where
  pub first : led ≡ Err Memory → ⊥
  pub each : (m : ℕ) (w : MuxWorker) → slice_get workers m ≡ Some w → w.stop ≡ Some Memory → ⊥
  pub some : ((stop : Stop) × (led ≡ Err stop))
      ⊎ ((m : ℕ) × (w : MuxWorker) × (slice_get workers m ≡ Some w) × IsTooLate w.stop)

-- WHAT COMES NEXT

-- how worker 0 went on after a phase that all have done, where the next one's records begin here
abbrev pub HasMet : Stage → Leader → Leader → List MuxWorker → ℕ → Next → Type 0
HasMet stage a b workers start (Phase s) =
    (s ≡ start) × ((servers : List Serving) (posted : Posted) → AreServersOf stage servers
    → IsReady stage servers posted a
    → HasSynced stage servers posted (max a.caller.latest (latest_in workers)) a b)
HasMet stage a b workers start End = (length stage.script.commands ≤ a.next) × (b ≡ a)
HasMet stage a b workers start TooLate =
    (b ≡ a) × ((moment : Moment) × (clock : Moment)
    × IsStopFrom (9 * 10 ^ 18) (max a.caller.latest (latest_in workers)) (Late moment clock))

-- which of these a phase leads to
abbrev pub IsNext : Rules → Stage → List Serving → List (Option MuxId) → Posted → Leader
    → List MuxWorker → Next → Type 0
IsNext F stage servers routes posted leader workers (Phase start) =
    IsBetween F stage servers routes posted leader workers start
IsNext F stage servers routes posted leader workers End =
    IsThrough F stage servers routes posted leader workers
IsNext F stage servers routes posted leader workers TooLate =
    HasGivenUp F stage servers routes posted leader workers

-- if a phase comes next, one more than the commands that are left; otherwise 0
abbrev pub left_of : Next → ℕ → ℕ → ℕ
left_of (Phase start) next all = suc (all - next)
left_of _ next all = 0

-- AT THE END

-- the muxes were shown what was posted, and nothing else
abbrev pub WereShown : Posted → List MuxWorker → Type 0
WereShown posted workers = (m : ℕ) (w : MuxWorker) → slice_get workers m ≡ Some w
    → IsPrefix w.mux.seen.clocks posted.clocks

-- what the workers give back: the logs of the controller and of the muxes, and their seats
pub record IsBack (F : Rules) (stage : Stage) (servers : List Serving)
    (routes : List (Option MuxId)) (late : Bool) (logs : List (List Event))
    (rows : List (List (List Seated))) : Type 0 where
  pub posted : Posted
  pub leader : Leader
  pub workers : List MuxWorker
  pub stood : MatchBool late (HasGivenUp F stage servers routes posted leader workers)
      (IsThrough F stage servers routes posted leader workers)
  pub logs_are : logs ≡ leader.log.items ∷ map (λ w. w.mux.log) workers
  pub rows_are : rows ≡ rows_of leader.caller.seats workers
  pub shown : WereShown posted workers

-- these are the events of a threaded run of the stage
abbrev pub MakeRun : Routes → Rules → Stage → List Event → Type 0
MakeRun R F stage events = (h : History) → h.stage ≡ stage → h.events ≡ events
    → IsThreadedRun R F h

-- the logs merge into a threaded run of the stage
abbrev pub MergeToRun : Routes → Rules → Stage → List (List Event) → Type 0
MergeToRun R F stage logs = MakeRun R F stage (in_order (joined logs))
