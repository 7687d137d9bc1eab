-- A run in which a worker has given up for a moment that was too large, as the code has it. Only
-- the proofs of bodies use this.
use Rattle.std.specs.Prelude.{◌≡◌, ℕ, ◌+◌, ◌*◌, ◌^◌, ◌≤◌, List, ◌++◌, length, slice_get}
use Rattle.std.specs.Prelude.{Option, Some}
use Rattle.std.specs.List.{AllByRecursion}
use Rattle.bm_base.specs.declared.ids.MuxId.{MuxId}
use Rattle.bm_core.specs.declared.events.Stage.{Stage}
use Rattle.bm_core.specs.Accounts.{Rules}
use Rattle.bm_merge.specs.Notes.{Note, greatest}
use Rattle.bm_merge.specs.Workers.{notes_of_all, notes_by}
use Rattle.bm_server.specs.Servings.{Serving}
use Rattle.bm_publish.specs.Posts.{Posted}
use Rattle.bm_worker.specs.WorkerNotes.{clock_of}
use Rattle.bm_worker.specs.declared.worker.MuxWorker.{MuxWorker}
use Rattle.bm_lead.specs.declared.leader.Leader.{Leader}
use Rattle.bm_lead.specs.Commands.{control_log}
use Rattle.bm_lead.specs.Leaders.{IsReady}
use Rattle.bm_lead.specs.Leads.{IsLed, IsPlaced}
use Rattle.bm_world.specs.Inside.Going.{HaveReplies, IsGoing}
use Rattle.bm_world.specs.Inside.Left.{IsSynced}

-- all that was done, and that one of its clocks is large
pub record HasGivenUp (F : Rules) (stage : Stage) (servers : List Serving)
    (routes : List (Option MuxId)) (posted : Posted) (leader : Leader) (workers : List MuxWorker)
    : Type 0 where
  pub phases : ℕ
  pub until : ℕ
  pub controller : List Note
  pub carriers : List (List Note)
  pub muxes : length workers ≡ stage.script.setting.muxes
  pub ready : IsReady stage servers posted leader
  pub led : IsLed stage posted leader controller
  pub replies : HaveReplies stage servers leader.caller.seats controller
  pub placed : AllByRecursion (λ n. IsPlaced stage servers n.event.what) controller
  pub count : length carriers ≡ length workers
  pub each : (m : ℕ) (w : MuxWorker) → slice_get workers m ≡ Some w
      → IsGoing F stage servers routes (control_log stage controller) posted.board phases until m
      w.mux w.caller (notes_by carriers m)
  pub synced : AllByRecursion
      (λ n. IsSynced stage (controller ++ notes_of_all carriers) n n.event.what) controller
  pub few : length (controller ++ notes_of_all carriers) ≤ 25000000
  pub large : 9 * 10 ^ 18
      ≤ greatest clock_of (controller ++ notes_of_all carriers) + 61 * 10 ^ 9
