-- Which replies a server gives to which calls. Only the proofs of bodies use this.
use Rattle.bm_shard.specs.declared.calls.ShardReply.{ShardReply}
use Rattle.bm_shard.specs.declared.calls.ShardReply.TheVariants.{Arrived, Closed, Retired}

abbrev pub IsArrived : ShardReply → Type 0
IsArrived (Arrived clock verdict answer) = Unit {0}
IsArrived _ = ⊥

abbrev pub IsClosed : ShardReply → Type 0
IsClosed (Closed clock closed) = Unit {0}
IsClosed _ = ⊥

abbrev pub IsRetired : ShardReply → Type 0
IsRetired (Retired clock) = Unit {0}
IsRetired _ = ⊥
