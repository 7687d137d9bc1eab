use Rattle.bm_connections_cli.proofs.Lists.{added_more}
use Rattle.bm_connections_cli.proofs.servers.servers_of.Goals as goal

pub loop-version-preserved : goal.loop-version-preserved
loop-version-preserved c = record {
  servers = added_more c.args.script.now.plan.changes c.loop-version.version c.args.script.now.setting.servers _ _
      c.in_ok-push_added.ensures c.loop-version.invariant.servers;
}
