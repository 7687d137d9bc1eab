use Rattle.std.proofs.Common.{◌≡◌}
use Rattle.bm_connections.specs.OpenEnds as spec
use Rattle.bm_connections.proofs.left_open.open_ends_by.Given as goal

abbrev pub invariant-loop-version : goal.invariant-loop-version
invariant-loop-version l = record { ends : l.ends.items ≡ spec.open_ends_by l.away l.version }
