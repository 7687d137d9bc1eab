use Rattle.std.proofs.Common.{◌≡◌, ◌++◌, map, take, drop}
use Rattle.bm_connections.specs.Inside.Resets.{with_end}
use Rattle.bm_connections.proofs.endings.end_all.Given as goal

abbrev pub invariant-loop-place : goal.invariant-loop-place
invariant-loop-place l =
    l.connections
    ≡ map (with_end l.closed l.resets) (take l.place l.fn.connections) ++ drop l.place l.fn.connections
