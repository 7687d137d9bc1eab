use Rattle.std.proofs.Common.{[]}
use Rattle.bm_table.specs.Entries.{IsTable}
use Rattle.bm_table.proofs.table.Table.over.Given as goal

abbrev pub invariant-loop-bucket : goal.invariant-loop-bucket
invariant-loop-bucket l = IsTable (record { buckets = l.bucket; servers = l.servers; changes = [] }) 0 l.entries.items
