-- The seats of a worker as contracts see them.
use Rattle.std.specs.Prelude.{ℕ, List}
use Rattle.bm_server.specs.Seats.{Seated}

pub record CallerState : Type 0 where
  -- the worker: 0, or the number of its mux plus one
  pub number : ℕ
  -- a seat of every server, in their order
  pub seats : List (List Seated)
  -- at least as many as its turns at any one shard
  pub tries : ℕ
  -- the greatest clock of all that it did, or 0
  pub latest : ℕ
