use Rattle.std.proofs.Common.{◌≡◌, ◌++◌, flat_map, string_bytes, take}
use Rattle.bm_connections.specs.NeededText.{server_line}
use Rattle.bm_connections.proofs.needed_text.write_servers.Given as goal

abbrev pub invariant-loop-server : goal.invariant-loop-server
invariant-loop-server l = record {
  written : string_bytes l.text
      ≡ string_bytes l.initial.text ++ flat_map (server_line l.clock.0) (take l.server-index l.servers);
}
