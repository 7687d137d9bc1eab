use Rattle.std.proofs.Common.{◌≡◌, drop}
use Rattle.bm_table.specs.Plans.{bad_bucket}
use Rattle.bm_table.proofs.plan.first_bad_bucket.Given as goal

abbrev pub invariant-loop-m : goal.invariant-loop-m
invariant-loop-m l = bad_bucket l.buckets l.low (drop l.m-index l.moves) ≡ bad_bucket l.buckets 0 l.moves
