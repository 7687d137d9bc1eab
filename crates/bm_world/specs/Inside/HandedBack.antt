-- What the workers give back when all phases are done: what holds of what they left at any moment,
-- and that it is complete. Only the proofs of bodies use this.
use Rattle.std.specs.Prelude.{◌≡◌, ℕ, ◌<◌, ◌≤◌, if◌then◌else◌, List, ◌++◌, length, is_some}
use Rattle.bm_core.specs.declared.events.Stage.{Stage}
use Rattle.bm_core.specs.Past.{segment_of, newest}
use Rattle.bm_core.specs.Runs.{AtEach}
use Rattle.bm_core.specs.Runs.Actor.{Controller}
use Rattle.bm_core.specs.Accounts.{Routes, Rules, steers_packet}
use Rattle.bm_core.specs.Threads.{sync_clock}
use Rattle.bm_shard.specs.Books.{Book}
use Rattle.bm_merge.specs.Notes.{Note, events_of, many}
use Rattle.bm_merge.specs.Workers.{notes_by, notes_of_all, home_part, looks_since, IsController, IsMet}
use Rattle.bm_world.specs.Inside.Left.{AreLeft}
use Rattle.bm_world.specs.Inside.Returned.{control_log, posted_clocks, IsCarriage, IsControl}

-- what the workers gave back, and the servers' books
pub record AreHandedBack (R : Routes) (F : Rules) (stage : Stage) (controller : List Note)
    (carriers : List (List Note)) (books : List Book) : Type 0 where
  pub left : AreLeft F stage controller carriers books
  pub muxes : length carriers ≡ stage.script.setting.muxes
  pub controls : IsController stage controller
  pub control : IsControl stage controller
  pub carried : (m : ℕ) → m < length carriers
      → IsCarriage R F stage (control_log stage controller)
      (posted_clocks (control_log stage controller)) m
      (notes_by carriers m)
  -- each steerable record is steered once, by one of the workers, and no other is
  pub steered : (k : ℕ)
      → many (λ n. steers_packet n.event.what k) (notes_of_all carriers)
      ≡ (if is_some (segment_of stage k) then 1 else 0)
  -- each Sync comes after what all workers did of its phase
  pub met : AtEach
      (λ rest n. IsMet stage (controller ++ notes_of_all carriers) (events_of rest) n n.event.what)
      (home_part stage Controller controller)
  pub changes : newest (control_log stage controller) ≡ length stage.script.plan.changes
  -- each mux has looked in the last phase too
  pub looked : (m : ℕ) → m < stage.script.setting.muxes
      → 1 ≤ many (looks_since m (sync_clock (control_log stage controller)))
      (controller ++ notes_of_all carriers)
