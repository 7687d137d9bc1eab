use Rattle.std.proofs.Common.{◌≡◌, List}
use Rattle.bm_core.specs.declared.events.Event.{Event}
use Rattle.bm_core.specs.declared.events.Stage.{Stage}
use Rattle.bm_connections.specs.Counts.{most_among}
use Rattle.bm_connections.specs.Inside.Held.{AreHeldByShards}
use Rattle.bm_connections.proofs.held.HeldByShards.most_among.Given as goal

abbrev pub invariant-loop-shard : goal.invariant-loop-shard
invariant-loop-shard l =
    (stage : Stage) (past : List Event) → AreHeldByShards stage past l.self
    → l.most ≡ most_among stage past l.server l.shard
