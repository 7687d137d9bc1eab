use Rattle.std.proofs.Common.{◌≡◌, length}
use Rattle.bm_connections.specs.Inside.OpenEnds.{IsCounting}
use Rattle.bm_connections.proofs.left_open.counts_of.Given as goal

abbrev pub invariant-loop-first : goal.invariant-loop-first
invariant-loop-first l = record {
  count : length l.counts.items ≡ l.versions;
  counting : IsCounting l.counts.items l.rest l.away;
}

abbrev pub decreases-loop-first : goal.decreases-loop-first
decreases-loop-first l = length l.rest
