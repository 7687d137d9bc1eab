use Rattle.std.proofs.Common.{◌≡◌, ◌≤◌, length}
use Rattle.bm_connections_cli.specs.Advice.{last_moving}
use Rattle.bm_connections_cli.proofs.advice.last_moving.Given as goal

abbrev pub invariant-loop-version : goal.invariant-loop-version
invariant-loop-version l = record {
  within : l.version ≤ length l.plan.changes;
  same : last_moving l.plan l.version ≡ last_moving l.plan (length l.plan.changes);
}

abbrev pub decreases-loop-version : goal.decreases-loop-version
decreases-loop-version l = l.version
