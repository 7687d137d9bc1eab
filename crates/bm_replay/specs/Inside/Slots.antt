-- The states of shards; a shard's state is made at its first call.
use Rattle.std.specs.Prelude.{Option, Some, None, Box}
use Rattle.bm_shard.specs.States.{State, first_state}
use Rattle.bm_shard.specs.declared.book.Shard.{Shard}

-- the state of a shard: the first one until it is made
abbrev pub state_in : {A : Type 0} → Shard → Option (Box State A) → State
state_in shard None = first_state shard
state_in shard (Some state) = state.value
