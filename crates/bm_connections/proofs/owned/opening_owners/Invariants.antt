use Rattle.std.proofs.Common.{◌≡◌, map}
use Rattle.std.specs.List.{range_with_len}
use Rattle.bm_table.specs.Tables.{table}
use Rattle.bm_connections.proofs.owned.opening_owners.Given as goal

abbrev pub invariant-loop-bucket : goal.invariant-loop-bucket
invariant-loop-bucket l = l.owners.items ≡ map (λ b. (table l.plan 0 b).cur) (range_with_len 0 l.bucket)
