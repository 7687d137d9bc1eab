use Rattle.bm_connections.specs.Base.{is_whole}
use Rattle.bm_connections.proofs.Lists.{mapped_more}
use Rattle.bm_connections.proofs.compared.wholes.Goals as goal

pub loop-connection-preserved : goal.loop-connection-preserved
loop-connection-preserved c = record {
  wholes = mapped_more is_whole c.args.table.now c.loop-connection.connection-index _ _ _ _
      c.loop-connection-test.true c.is_whole.ensures c.in_ok-push.ensures.items c.loop-connection.invariant.wholes;
}
