use Rattle.std.proofs.Common.{◌≤◌, ◌<◌, ◌-◌}
use Rattle.bm_table.specs.Tables.{moves}
use Rattle.bm_connections.proofs.moved.nth_move.Given as goal

abbrev pub invariant-loop-high : goal.invariant-loop-high
invariant-loop-high l = record {
  within : l.high ≤ l.version;
  order : l.low < l.high;
  fewer : moves l.plan l.bucket 0 l.low < l.nth;
  enough : l.nth ≤ moves l.plan l.bucket 0 l.high;
}

abbrev pub decreases-loop-high : goal.decreases-loop-high
decreases-loop-high l = l.high - l.low
