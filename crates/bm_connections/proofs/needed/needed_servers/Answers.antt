use Rattle.bm_connections.specs.Inside.Needs.{server_in}
use Rattle.bm_connections.proofs.Needing.{flat_more}
use Rattle.bm_connections.proofs.needed.needed_servers.Goals as goal

pub loop-server-preserved : goal.loop-server-preserved
loop-server-preserved c = record {
  list =
      flat_more (server_in c.args.needs.now) c.args.servers.now c.loop-server.server-index _ _ _
      c.loop-server-test.true c.in_ok-push_server.ensures c.loop-server.invariant.list;
}
