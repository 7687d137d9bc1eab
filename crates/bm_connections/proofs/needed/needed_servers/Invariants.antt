use Rattle.std.proofs.Common.{◌≡◌, flat_map, take}
use Rattle.bm_connections.specs.Inside.Needs.{server_in}
use Rattle.bm_connections.proofs.needed.needed_servers.Given as goal

abbrev pub invariant-loop-server : goal.invariant-loop-server
invariant-loop-server l = record {
  list : l.list.items ≡ flat_map (server_in l.needs) (take l.server-index l.servers);
}
