-- How contracts see a caller. Only the proofs of bodies use this.
use Rattle.std.specs.Prelude.{◌≡◌, ℕ, ◌≤◌, List, slice_get, Some}
use Rattle.bm_server.specs.Seats.{Seated, most_turns}
use Rattle.bm_worker.specs.Callers.{CallerState}
use Rattle.bm_worker.specs.declared.caller.Caller.TheInside.{Inside}

abbrev pub caller_state : Inside → CallerState
caller_state a = record {
  number = a.number;
  seats = a.seats.items;
  tries = a.tries;
  latest = a.latest.0;
}

-- no seat took more turns than the caller counted
pub record IsCaller (a : Inside) : Type 0 where
  pub turns : (s : ℕ) (seat : List Seated) → slice_get a.seats.items s ≡ Some seat
      → most_turns seat ≤ a.tries
