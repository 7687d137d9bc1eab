use Rattle.std.proofs.Common.{rules}
use Rattle.bm_connections.specs.Counts.{server_count}
use Rattle.bm_connections.proofs.Lists.{mapped_more}
use Rattle.bm_connections.proofs.servers.server_counts.Goals as goal

pub loop-server-init : goal.loop-server-init
loop-server-init c = record { counts = λ past loads held. search rules }

pub loop-server-preserved : goal.loop-server-preserved
loop-server-preserved c = record {
  counts = λ past loads held. mapped_more (server_count c.args.stage.now past) c.args.servers.now
      c.loop-server.server-index _ _ _ _ c.loop-server-test.true (c.server_count.ensures past loads held)
      c.in_ok-push.ensures.items (c.loop-server.invariant.counts past loads held);
}
