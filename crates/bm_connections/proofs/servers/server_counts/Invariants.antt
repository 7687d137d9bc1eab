use Rattle.std.proofs.Common.{◌≡◌, List, map, take}
use Rattle.bm_core.specs.declared.events.Event.{Event}
use Rattle.bm_connections.specs.Counts.{server_count}
use Rattle.bm_connections.specs.Inside.Held.{AreHeldByShards}
use Rattle.bm_connections.specs.Inside.Loads.{AreLoads, load}
use Rattle.bm_connections.proofs.servers.server_counts.Given as goal

abbrev pub invariant-loop-server : goal.invariant-loop-server
invariant-loop-server l = record {
  counts : (past : List Event) → AreLoads past (load l.loads) → AreHeldByShards l.stage past l.held
      → l.list.items ≡ map (server_count l.stage past) (take l.server-index l.servers);
}
