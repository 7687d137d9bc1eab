use Rattle.std.proofs.Common.{◌≡◌, ◌++◌, take}
use Rattle.bm_connections_cli.proofs.Lists.{all_added}
use Rattle.bm_connections_cli.proofs.servers.servers_of.Given as goal

abbrev pub invariant-loop-version : goal.invariant-loop-version
invariant-loop-version l = record {
  servers : l.servers.items
      ≡ l.script.setting.servers ++ all_added (take l.version l.script.plan.changes);
}
