-- What the workers give back, after the last phase and where one has given up.
use Rattle.std.proofs.Common.{◌≡◌, ℕ, zero, suc, ◌+◌, Bool, true, false, List, length}
use Rattle.std.proofs.Common.{map, Option, Some, ◌∙◌, subst, arith}
use Rattle.std.specs.Prelude.{slice_get, MatchBool}
use Rattle.std.proofs.lemmas.List.{length-map}
use Rattle.std.proofs.lemmas.Option.{same_Some}
use Rattle.bm_base.specs.declared.ids.MuxId.{MuxId}
use Rattle.bm_core.specs.declared.events.Stage.{Stage}
use Rattle.bm_core.specs.Accounts.{Rules}
use Rattle.bm_turnstile.specs.Sittings.{who}
use Rattle.bm_publish.specs.Posts.{Posted}
use Rattle.bm_server.specs.Seats.{Seated, row}
use Rattle.bm_server.specs.Servings.{Serving}
use Rattle.bm_worker.specs.WorkerNotes.{HasSeats}
use Rattle.bm_worker.specs.Callers.{CallerState}
use Rattle.bm_worker.specs.declared.worker.MuxWorker.{MuxWorker}
use Rattle.bm_lead.specs.declared.leader.Leader.{Leader}
use Rattle.bm_world.specs.Inside.RunStates.{rows_of, IsThrough}
use Rattle.bm_world.specs.Inside.GivenUp.{HasGivenUp}
use Rattle.bm_world.proofs.Ending.{row_of}

-- how the phases ended
abbrev pub Stood : Rules → Stage → List Serving → List (Option MuxId) → Bool → Posted → Leader → List MuxWorker → Type 0
Stood F stage servers routes late posted leader workers =
    MatchBool late (HasGivenUp F stage servers routes posted leader workers)
    (IsThrough F stage servers routes posted leader workers)

-- THE BOARD

-- each mux is at the board of the posts
pub boards : (F : Rules) (stage : Stage) (servers : List Serving) (routes : List (Option MuxId)) (late : Bool)
    (posted : Posted) (leader : Leader) (workers : List MuxWorker) → Stood F stage servers routes late posted leader workers
    → (m : ℕ) (w : MuxWorker) → slice_get workers m ≡ Some w → w.mux.seen.board ≡ posted.board
boards F stage servers routes true posted leader workers is m w here = (is.each m w here).board_is
boards F stage servers routes false posted leader workers is m w here =
    (is.standing.at_work.each m w here).going.board_is

-- THE SEATS

-- who has_seats where
pub record AreSitting (stage : Stage) (servers : List Serving) (leader : CallerState) (workers : List MuxWorker) : Type
    0 where
  pub muxes : length workers ≡ stage.script.setting.muxes
  pub first : HasSeats servers leader
  pub number : leader.number ≡ 0
  pub each : (m : ℕ) (w : MuxWorker) → slice_get workers m ≡ Some w
      → HasSeats servers w.caller × (w.caller.number ≡ m + 1)

pub sitting : (F : Rules) (stage : Stage) (servers : List Serving) (routes : List (Option MuxId)) (late : Bool)
    (posted : Posted) (leader : Leader) (workers : List MuxWorker) → Stood F stage servers routes late posted leader workers
    → AreSitting stage servers leader.caller workers
sitting F stage servers routes true posted leader workers is = record {
  muxes = is.muxes;
  first = is.ready.has_seats;
  number = is.ready.number;
  each = λ m w here. let one = is.each m w here in (one.has_seats, one.number);
}
sitting F stage servers routes false posted leader workers is =
    let standing = is.standing
    in record {
      muxes = standing.muxes;
      first = standing.ready.has_seats;
      number = standing.ready.number;
      each = λ m w here. let one = (standing.at_work.each m w here).going in (one.has_seats, one.number);
    }

sits_as : (servers : List Serving) (p : CallerState) (n : ℕ) → HasSeats servers p → p.number ≡ n
    → map (map who) p.seats ≡ map (λ server. row server n) servers
sits_as servers p n has_seats is =
    subst (λ (k : ℕ). map (map who) p.seats ≡ map (λ (server : Serving). row server k) servers) is has_seats

pub row_has_seats : (stage : Stage) (servers : List Serving) (leader : CallerState) (workers : List MuxWorker)
    → AreSitting stage servers leader workers → (w : ℕ) (seats : List (List Seated))
    → slice_get (rows_of leader.seats workers) w ≡ Some seats
    → map (map who) seats ≡ map (λ server. row server w) servers
row_has_seats stage servers leader workers are zero seats here =
    subst (λ (x : List (List Seated)). map (map who) x ≡ map (λ (server : Serving). row server 0) servers)
    (same_Some leader.seats seats here) (sits_as servers leader 0 are.first are.number)
row_has_seats stage servers leader workers are (suc m) seats here =
    let w = row_of workers m seats here
    in let one = are.each m w.0 w.1
    in let next : m + 1 ≡ suc m = omega arith
    in subst (λ (x : List (List Seated)). map (map who) x ≡ map (λ (server : Serving). row server (suc m)) servers) w.2
    (sits_as servers w.0.caller (suc m) one.0 (one.1 ∙ next))

pub rows_long : (stage : Stage) (servers : List Serving) (leader : CallerState) (workers : List MuxWorker)
    → AreSitting stage servers leader workers
    → length (rows_of leader.seats workers) ≡ stage.script.setting.muxes + 1
rows_long stage servers leader workers are =
    let size = length-map workers (λ (w : MuxWorker). w.caller.seats) in let muxes = are.muxes in omega arith
