-- What the workers leave if one of them has given up: less than they give back at the end. Only the
-- proofs of bodies use this.
use Rattle.std.specs.Prelude.{◌≡◌, ◌⊎◌, ℕ, suc, ◌<◌, ◌==◌, ◌&&◌, max}
use Rattle.std.specs.Prelude.{true, List, ◌++◌, length}
use Rattle.std.specs.Prelude.{Some, is_some}
use Rattle.std.specs.List.{AllByRecursion}
use Rattle.bm_core.specs.declared.events.Event.{Event}
use Rattle.bm_core.specs.declared.events.Stage.{Stage}
use Rattle.bm_core.specs.declared.events.What.{What}
use Rattle.bm_core.specs.declared.events.What.TheVariants.{Switch, Steer, Sync}
use Rattle.bm_core.specs.Accounts.{Rules, is_sync}
use Rattle.bm_core.specs.Past.{segment_of}
use Rattle.bm_core.specs.Runs.{AtEach, next_clock}
use Rattle.bm_core.specs.Runs.Actor.{MuxOf}
use Rattle.bm_core.specs.Stages.{IsSound}
use Rattle.bm_core.specs.Threads.{last_own, moment_at, record_moment}
use Rattle.bm_shard.specs.Books.{Book}
use Rattle.bm_merge.specs.Merges.{some_event}
use Rattle.bm_merge.specs.Notes.{Note}
use Rattle.bm_merge.specs.Workers.{IsBefore, IsDrawn, HasSending, IsUnderway, carries, command_of}
use Rattle.bm_merge.specs.Workers.{notes_by, notes_of_all}
use Rattle.bm_mux.specs.Muxes.{post_clock}
use Rattle.bm_worker.specs.Phases.{mux_log, IsLossOf}
use Rattle.bm_world.specs.Inside.Returned.{HaveOwnBooks, IsBooked, IsBookOfAll, control_log}
use Rattle.bm_world.specs.Inside.Returned.{posted_clocks}

-- 0, or the clock of a Sync in the controller's log
abbrev pub IsSyncIn : List Event → ℕ → Type 0
IsSyncIn control c = (c ≡ 0) ⊎ (some_event (λ e. is_sync e.what && e.clock.0 == c) control ≡ true)

-- where the clock of a mux's event comes from
abbrev pub IsMuxClocked : Stage → List Event → List ℕ → List Event → ℕ → What → Type 0
IsMuxClocked stage control posts rest clock (Switch m v) =
    (post : ℕ) × (sync : ℕ) × (post_clock posts v.0 ≡ Some post) × IsSyncIn control sync
    × (clock ≡ next_clock (last_own stage rest (Some (MuxOf m.0))) (max post sync))
IsMuxClocked stage control posts rest clock (Steer k m) =
    clock ≡ next_clock (last_own stage rest (Some (MuxOf m.0))) (record_moment stage k)
IsMuxClocked stage control posts rest clock _ = Unit {0}

-- a Steer is of a steerable record
abbrev pub IsSteerable : Stage → What → Type 0
IsSteerable stage (Steer k m) = is_some (segment_of stage k) ≡ true
IsSteerable stage _ = Unit {0}

-- what worker m + 1 did, whether it gave up or not
pub record IsLeft (F : Rules) (stage : Stage) (control : List Event) (posts : List ℕ) (m : ℕ)
    (notes : List Note)
    : Type 0 where
  pub kinds : AllByRecursion (λ n. carries m n.event.what ≡ true) notes
  pub seats : AllByRecursion (λ n. n.seat ≡ suc m) notes
  pub has_sending : AllByRecursion (λ n. HasSending notes n n.event.what) notes
  pub drawn : AllByRecursion (IsDrawn F) notes
  pub losses : AllByRecursion (λ n. IsLossOf notes n.event.clock.0 n.event.what) notes
  pub steerable : AllByRecursion (λ n. IsSteerable stage n.event.what) notes
  pub gives : AtEach (λ rest e. IsMuxClocked stage control posts rest e.clock.0 e.what)
      (mux_log stage m notes)

-- a Sync is at the clock after both its command's moment and 0 or a lower clock of what was done
abbrev pub IsSynced : Stage → List Note → Note → What → Type 0
IsSynced stage all n Sync = (top : ℕ) × IsBefore all n.event.clock.0 top
    × (n.event.clock.0 ≡ next_clock top (moment_at (command_of stage n)))
IsSynced stage all n _ = Unit {0}

-- what the workers left, and the servers' books
pub record AreLeft (F : Rules) (stage : Stage) (controller : List Note)
    (carriers : List (List Note)) (books : List Book)
    : Type 0 where
  pub sound : IsSound stage
  pub controls : AtEach (IsUnderway stage) controller
  pub seats : AllByRecursion (λ n. n.seat ≡ 0) controller
  pub synced : AllByRecursion
      (λ n. IsSynced stage (controller ++ notes_of_all carriers) n n.event.what) controller
  pub each : (m : ℕ) → m < length carriers
      → IsLeft F stage (control_log stage controller) (posted_clocks (control_log stage controller))
      m (notes_by carriers m)
  pub kept : AllByRecursion (IsBookOfAll stage controller carriers) books
  pub own : HaveOwnBooks books
  pub booked : AllByRecursion (λ n. IsBooked stage books n.event.what)
      (controller ++ notes_of_all carriers)
