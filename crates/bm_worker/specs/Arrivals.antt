-- A copy of a packet, as the server at a place reads it and takes it.
use Rattle.std.specs.Prelude.{◌≡◌, ℕ, List, Option, Some, Ok}
use Rattle.bm_base.specs.declared.flow.Segment.{Segment}
use Rattle.bm_base.specs.declared.ids.Moment.{Moment}
use Rattle.bm_base.specs.declared.ids.ServerId.{ServerId}
use Rattle.bm_base.specs.Labels.{entry_of, onward, server_of}
use Rattle.bm_base.specs.declared.label.Tag.{Tag}
use Rattle.bm_core.specs.declared.events.Verdict.{Verdict}
use Rattle.bm_core.specs.declared.events.Verdict.TheVariants.{Forward}
use Rattle.bm_shard.specs.declared.calls.ShardCall.TheVariants.{Arrive}
use Rattle.bm_shard.specs.declared.calls.ShardReply.TheVariants.{Arrived}
use Rattle.bm_shard.specs.Copies.{copy_in}
use Rattle.bm_server.specs.Servings.{Serving}
use Rattle.bm_server.specs.Seats.{Seated}
use Rattle.bm_server.specs.Servings.{shard_for}
use Rattle.bm_worker.specs.SeatCalls.{AddsCall}

-- the server reads this tag and segment in the octets
abbrev pub IsCopy : Serving → List ℕ → Tag × Segment → Type 0
IsCopy server octets read = copy_in server.id octets ≡ Ok read

-- the copy came to the shard of its flow, which replied with this clock and verdict; it is
-- forwarded only if its tag names a server to pass it on to
pub record HasCome (place : ℕ) (server : Serving) (packet : ℕ) (read : Tag × Segment) (due : Moment)
    (r : Moment × Verdict) (a b : List (List Seated)) : Type 0 where
  pub reset : Option (List ℕ)
  pub adds : AddsCall place (shard_for server read.1.flow) (Arrive packet read.0 read.1 due)
      (Arrived r.0 r.1 reset) a b
  pub passed : (to : ServerId) → r.1 ≡ Forward to
      → server_of (onward (entry_of read.0) read.0.hop) ≡ Some to
