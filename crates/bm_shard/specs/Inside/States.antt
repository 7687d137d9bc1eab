-- What the contracts of private calls and the proofs of bodies use in addition to States.
use Rattle.std.specs.Prelude.{List}
use Rattle.bm_conn.specs.Connections.{AreOnce}
use Rattle.bm_core.specs.Books.{Turn}
use Rattle.bm_shard.specs.Inside.Holdings.{IsLeftBy}
use Rattle.bm_shard.specs.States.{State, holding_in}

-- these turns left the state
pub record IsLeft (turns : List Turn) (state : State) : Type 0 where
  pub left : IsLeftBy turns (holding_in state)
  pub once : AreOnce state.connections
