use Rattle.std.proofs.Common.{◌≡◌}
use Rattle.bm_table.specs.Tables as tables
use Rattle.bm_trace.proofs.entries.entry_at.Given as goal

abbrev pub invariant-loop-v : goal.invariant-loop-v
invariant-loop-v l = l.entry ≡ tables.table l.plan l.v l.bucket
