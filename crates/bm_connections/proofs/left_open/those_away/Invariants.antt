use Rattle.std.proofs.Common.{◌≡◌, take}
use Rattle.bm_connections.specs.OpenEnds.{those_away}
use Rattle.bm_connections.proofs.left_open.those_away.Given as goal

abbrev pub invariant-loop-c : goal.invariant-loop-c
invariant-loop-c l = record { away : l.away.items ≡ those_away l.stage (take l.c-index l.table) }
