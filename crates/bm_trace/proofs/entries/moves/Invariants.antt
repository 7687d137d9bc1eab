use Rattle.std.proofs.Common.{◌≡◌, ◌≤◌}
use Rattle.bm_table.specs.Tables as tables
use Rattle.bm_trace.proofs.entries.moves.Given as goal

abbrev pub invariant-loop-v : goal.invariant-loop-v
invariant-loop-v l = (l.count ≡ tables.moves l.plan l.bucket l.since l.v) × (l.count ≤ l.v)
