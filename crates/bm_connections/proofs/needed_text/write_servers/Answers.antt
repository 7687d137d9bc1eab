use Rattle.bm_connections.specs.NeededText.{server_line}
use Rattle.bm_connections.proofs.Lines.{lines_more}
use Rattle.bm_connections.proofs.needed_text.write_servers.Goals as goal

pub loop-server-preserved : goal.loop-server-preserved
loop-server-preserved c = record {
  written =
      lines_more (server_line c.args.clock.0) c.args.servers.now c.loop-server.server-index _ _ _ _ c.loop-server-test.true
      c.in_ok-write_server.ensures c.loop-server.invariant.written;
}
