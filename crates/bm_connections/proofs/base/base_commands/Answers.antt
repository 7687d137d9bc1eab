use Rattle.bm_connections.specs.Base.{stays}
use Rattle.bm_connections.proofs.Lists.{kept_more}
use Rattle.bm_connections.proofs.base.base_commands.Goals as goal

pub loop-command-preserved : goal.loop-command-preserved
loop-command-preserved c = record {
  kept = kept_more (stays c.args.servers.now) c.args.commands.now c.loop-command.command-index _ _ _
      c.loop-command-test.true c.in_ok-push_staying.ensures c.loop-command.invariant.kept;
}
