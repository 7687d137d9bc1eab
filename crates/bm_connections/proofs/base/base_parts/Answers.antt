use Rattle.std.proofs.Common.{sym, subst}
use Rattle.bm_table.specs.Settings.{RiseFrom}
use Rattle.bm_connections.proofs.Bases.{rises_from_0}
use Rattle.bm_connections.proofs.base.base_parts.Goals as goal

pub new-requires-clause-rising : goal.new-requires-clause-rising
new-requires-clause-rising c =
    subst (RiseFrom 0) (sym c.items-servers.ensures) (rises_from_0 c.args.script.now.setting.servers c.requires.setting.rising)
