use Rattle.std.proofs.Common.{◌≡◌, drop}
use Rattle.bm_table.specs.Tables.{is_among}
use Rattle.bm_connections.proofs.base.is_one_of.Given as goal

abbrev pub invariant-loop-other : goal.invariant-loop-other
invariant-loop-other l = is_among l.servers l.server ≡ is_among (drop l.other-index l.servers) l.server
