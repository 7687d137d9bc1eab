use Rattle.std.proofs.Common.{◌≡◌, ◌≤◌}
use Rattle.bm_connections.specs.Leaves.{last_leave}
use Rattle.bm_connections.proofs.moved.last_leave.Given as goal

abbrev pub invariant-loop-before : goal.invariant-loop-before
invariant-loop-before l = record {
  within : l.end ≤ l.version;
  same : last_leave l.plan l.bucket l.server l.end ≡ last_leave l.plan l.bucket l.server l.version;
}

abbrev pub decreases-loop-before : goal.decreases-loop-before
decreases-loop-before l = l.end
