-- A run in progress: what the workers did so far, between two phases and when one has ended. Only
-- the proofs of bodies use this.
use Rattle.std.specs.Prelude.{◌≡◌, ℕ, ◌+◌, ◌*◌, ◌<◌, ◌≤◌, if◌then◌else◌, List}
use Rattle.std.specs.Prelude.{◌∷◌, ◌++◌, length}
use Rattle.std.specs.Prelude.{slice_get, Option, Some, None, IfSome, take}
use Rattle.std.specs.List.{AllByRecursion}
use Rattle.logbook.specs.Pages.{Book}
use Rattle.bm_base.specs.declared.ids.MuxId.{MuxId}
use Rattle.bm_core.specs.declared.events.Event.{Event}
use Rattle.bm_core.specs.declared.events.Stage.{Stage}
use Rattle.bm_core.specs.Accounts.{Routes, Rules, count_of, steers_packet}
use Rattle.bm_core.specs.Accounts.{wants_sync}
use Rattle.bm_core.specs.Runs.Actor.{Controller}
use Rattle.bm_core.specs.Threads.{sync_clock, newest_before, packet_of, is_sync_by, record_moment}
use Rattle.bm_merge.specs.Notes.{Note, many, total, greatest}
use Rattle.bm_merge.specs.Workers.{home_part, notes_by, notes_of_all, looks_since}
use Rattle.bm_merge.proofs.Phasing.{IsPhased}
use Rattle.bm_server.specs.Servings.{Serving}
use Rattle.bm_worker.specs.WorkerNotes.{clock_of}
use Rattle.bm_worker.specs.Phases.{entries_per_packet, tries_per_packet}
use Rattle.bm_worker.specs.Assigned.{is_assigned}
use Rattle.bm_worker.specs.declared.worker.MuxWorker.{MuxWorker}
pub use Rattle.bm_world.specs.Inside.Going.{HaveReplies, IsGoing}
use Rattle.bm_world.specs.Inside.Returned.{control_log, IsCarriage}

-- the worker of mux m, after this many phases, in which the records before this place were carried
pub record IsAtWork (R : Routes) (F : Rules) (stage : Stage) (servers : List Serving)
    (routes : List (Option MuxId))
    (control : List Event) (board : Book) (phases until m : ℕ) (w : MuxWorker) (notes : List Note) :
    Type 0 where
  pub going : IsGoing F stage servers routes control board phases until m w.mux w.caller notes
  pub carriage : IsCarriage R F stage control w.mux.seen.clocks m notes
  pub latest : w.caller.latest ≡ greatest clock_of notes
  pub steered : (k : ℕ) → many (λ n. steers_packet n.event.what k) notes
      ≡ (if is_assigned routes m 0 until k then 1 else 0)
  pub within : AllByRecursion (λ n. IfSome (packet_of n.event.what) (λ k. k ≤ until)) notes
  pub plan : w.mux.seen.plan ≡ stage.script.plan
  pub tries : w.caller.tries ≤ tries_per_packet * until
  pub steps : w.steps ≤ until
  pub room : length w.mux.log ≤ entries_per_packet * until + phases
  pub stop : w.stop ≡ None

-- the notes of a phase before those of earlier phases, for each worker
abbrev pub add_notes : List (List Note) → List (List Note) → List (List Note)
add_notes (x ∷ more) (d ∷ carriers) = (x ++ d) ∷ add_notes more carriers
add_notes _ carriers = carriers

-- the muxes' workers, given what worker 0 did, with p Syncs
pub record AreAtWork (R : Routes) (F : Rules) (stage : Stage) (servers : List Serving)
    (routes : List (Option MuxId))
    (board : Book) (p phases until : ℕ) (workers : List MuxWorker) (controller : List Note)
    (carriers : List (List Note))
    : Type 0 where
  pub count : length carriers ≡ length workers
  pub each : (m : ℕ) (w : MuxWorker) → slice_get workers m ≡ Some w
      → IsAtWork R F stage servers routes (control_log stage controller) board phases until m w
      (notes_by carriers m)
  -- all that was done, in some order
  pub all : List Note
  pub same : (f : Note → ℕ) → total f all ≡ total f (controller ++ notes_of_all carriers)
  pub phased : IsPhased stage p (home_part stage Controller controller) all

-- between two phases: all clocks are below that of the last Sync, which is the greatest
pub record AreApart (stage : Stage) (after first : ℕ) (controller : List Note)
    (carriers : List (List Note)) : Type 0 where
  pub sync : sync_clock (control_log stage controller) ≡ after
  pub first_is : newest_before (control_log stage controller) ≡ first
  pub below : (m : ℕ) → AllByRecursion (λ n. clock_of n < after) (notes_by carriers m)
  pub top : greatest clock_of controller ≡ after

-- each mux has looked since the last Sync
abbrev pub HaveLooked : Stage → List Note → List (List Note) → Type 0
HaveLooked stage controller carriers = (m : ℕ) → m < stage.script.setting.muxes
    → 1 ≤ many (looks_since m (sync_clock (control_log stage controller)))
    (controller ++ notes_of_all carriers)

-- the commands before this place have p syncs, and none of these is later than a record from the
-- place `before` on
pub record IsAtPhase (stage : Stage) (next p before : ℕ) : Type 0 where
  pub syncs : count_of wants_sync (take next stage.script.commands) ≡ p
  pub earlier : (k : ℕ) → before < k → k ≤ length stage.capture.records
      → count_of (is_sync_by (record_moment stage k)) (take next stage.script.commands) ≡ p
