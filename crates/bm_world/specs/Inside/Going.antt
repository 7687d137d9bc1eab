-- What the worker of one mux has done so far, whether it gave up or not: what holds at every moment
-- of a run. Only the proofs of bodies use this.
use Rattle.std.specs.Prelude.{◌≡◌, ℕ, ◌+◌, ◌*◌, ◌≤◌, if◌then◌else◌, List, length, reverse, slice_get}
use Rattle.std.specs.Prelude.{Option, Some}
use Rattle.std.specs.List.{AllByRecursion}
use Rattle.logbook.specs.Pages.{Book as Board}
use Rattle.bm_base.specs.declared.ids.MuxId.{MuxId}
use Rattle.bm_core.specs.declared.events.Event.{Event}
use Rattle.bm_core.specs.declared.events.Stage.{Stage}
use Rattle.bm_core.specs.Accounts.{Rules, steers_packet}
use Rattle.bm_core.specs.Runs.Actor.{ShardOf}
use Rattle.bm_merge.specs.Notes.{Note, many}
use Rattle.bm_mux.specs.Muxes.{MuxState}
use Rattle.bm_server.specs.Seats.{Seated}
use Rattle.bm_server.specs.Servings.{Serving, shard_at}
use Rattle.bm_worker.specs.WorkerNotes.{noted, timed_events, HasSeats}
use Rattle.bm_worker.specs.Callers.{CallerState}
use Rattle.bm_worker.specs.Phases.{mux_log, AreCopies, IsPlaced, is_steer, notes_per_packet}
use Rattle.bm_worker.specs.SeatCalls.{calls_there}
use Rattle.bm_worker.specs.Assigned.{is_assigned}
use Rattle.bm_world.specs.Inside.Left.{IsLeft}

-- these seats' calls and replies are exactly what was done at each shard, in its order
abbrev pub HaveReplies : Stage → List Serving → List (List Seated) → List Note → Type 0
HaveReplies stage servers seats notes =
    (s h : ℕ) (server : Serving) → slice_get servers s ≡ Some server
    → timed_events (shard_at server h) (calls_there seats s h) ≡ noted stage (ShardOf server.id.0 h) notes

-- what the worker of mux m did in at most this many phases, of the records before this place
pub record IsGoing (F : Rules) (stage : Stage) (servers : List Serving) (routes : List (Option MuxId))
    (control : List Event) (board : Board) (phases until m : ℕ) (mux : MuxState) (caller : CallerState)
    (notes : List Note) : Type 0 where
  pub left : IsLeft F stage control mux.seen.clocks m notes
  pub id : mux.id.0 ≡ m
  pub logged : reverse mux.log ≡ mux_log stage m notes
  pub replies : HaveReplies stage servers caller.seats notes
  pub copies : AreCopies stage mux.id servers (reverse mux.log) caller.seats
  pub placed : AllByRecursion (λ n. IsPlaced servers n.event.what) notes
  pub number : caller.number ≡ m + 1
  pub has_seats : HasSeats servers caller
  pub board_is : mux.seen.board ≡ board
  -- each of its packets is steered at most once
  pub steered : (k : ℕ) → many (λ n. steers_packet n.event.what k) notes
      ≤ (if is_assigned routes m 0 until k then 1 else 0)
  -- besides the first Switch of each phase, at most as many notes as the packets may lead to
  pub few : length notes ≤ notes_per_packet * many (λ n. is_steer n.event.what) notes + phases
