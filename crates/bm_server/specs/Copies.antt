-- What the octets of a copy make a server do.
use Rattle.std.specs.Prelude.{◌≡◌, ℕ, List, Result, Ok, Err}
use Rattle.bm_base.specs.declared.flow.Segment.{Segment}
use Rattle.bm_base.specs.declared.ids.Moment.{Moment}
use Rattle.bm_base.specs.declared.label.Tag.{Tag}
use Rattle.bm_shard.specs.declared.calls.ShardCall.{ShardCall}
use Rattle.bm_shard.specs.declared.calls.ShardCall.TheVariants.{Arrive}
use Rattle.bm_shard.specs.declared.calls.ShardReply.{ShardReply}
use Rattle.bm_shard.specs.declared.fault.HandleFault.{HandleFault}
use Rattle.bm_shard.specs.declared.fault.HandleFault.TheVariants.{Memory}
use Rattle.bm_server.specs.Servings.{Serving, shard_for}
use Rattle.bm_server.specs.Seats.{GetsReply, IsReply, Seated, TakesTurn}

-- a turn fails only where memory was refused
abbrev pub IsMemory : Result ShardReply HandleFault → Type 0
IsMemory (Ok reply) = Unit {0}
IsMemory (Err fault) = fault ≡ Memory

-- the call of a copy
abbrev pub arrival : ℕ → Moment → Tag × Segment → ShardCall
arrival packet due read = Arrive packet read.0 read.1 due

-- a copy that can't be read has its fault and touches no shard; any other is one turn at the shard
-- of its flow
abbrev pub HandlesCopy : Serving → ℕ → Moment → Result (Tag × Segment) HandleFault
    → Result ShardReply HandleFault → List Seated → List Seated → Type 0
HandlesCopy server packet due (Err fault) result old new = (result ≡ Err fault) × (new ≡ old)
HandlesCopy server packet due (Ok read) result old new =
    GetsReply (shard_for server read.1.flow) (arrival packet due read) result old new
    × IsMemory result × IsReply (arrival packet due read) result
    × TakesTurn (shard_for server read.1.flow) (arrival packet due read) result old new
