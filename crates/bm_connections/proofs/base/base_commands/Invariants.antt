use Rattle.std.proofs.Common.{◌≡◌, filter, take}
use Rattle.bm_connections.specs.Base.{stays}
use Rattle.bm_connections.proofs.base.base_commands.Given as goal

abbrev pub invariant-loop-command : goal.invariant-loop-command
invariant-loop-command l = record {
  kept : l.kept.items ≡ filter (stays l.servers) (take l.command-index l.commands);
}
