use Rattle.std.proofs.Common.{◌≡◌, map, take}
use Rattle.bm_connections.specs.Base.{is_whole}
use Rattle.bm_connections.proofs.compared.wholes.Given as goal

abbrev pub invariant-loop-connection : goal.invariant-loop-connection
invariant-loop-connection l = record {
  wholes : l.wholes.items ≡ map is_whole (take l.connection-index l.table);
}
