-- What the contracts of private calls and the proofs of bodies use in addition to Servings.
use Rattle.std.specs.Prelude.{◌<◌, ◌≤◌, length}
use Rattle.bm_server.specs.Servings.{Serving}

pub record IsServing (server : Serving) : Type 0 where
  pub some : 1 ≤ length server.tables
  pub most : length server.tables ≤ 64
  pub seated : 0 < server.seats
