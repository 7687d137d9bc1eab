use Rattle.std.proofs.Common.{◌≡◌, ◌≤◌}
use Rattle.std.specs.Prelude.{IfSome}
use Rattle.bm_lifetime.specs.Inside.Seen.{near_seen}
use Rattle.bm_lifetime.proofs.seen.near_moves.Given as goal

abbrev pub invariant-loop-bucket : goal.invariant-loop-bucket
invariant-loop-bucket l = record {
  are : l.near ≡ near_seen l.time l.seen l.bucket;
  few : IfSome l.near (λ n. n.buckets ≤ l.bucket);
}
