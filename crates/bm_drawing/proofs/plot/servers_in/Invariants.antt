use Rattle.std.proofs.Common.{◌≡◌, [], fold, take}
use Rattle.bm_connections.specs.declared.connection.Connection.{Connection}
use Rattle.bm_drawing.specs.Drawing.{with_server}
use Rattle.bm_drawing.proofs.plot.servers_in.Given as goal

abbrev pub invariant-loop-connection : goal.invariant-loop-connection
invariant-loop-connection l = record {
  collected : l.servers.keys
      ≡ fold (λ servers (c : Connection). with_server servers c.server) [] (take l.connection-index l.table);
}
