use Rattle.std.proofs.Common.{◌≡◌}
use Rattle.bm_lifetime.specs.Inside.Seen.{least_seen}
use Rattle.bm_lifetime.proofs.seen.least_bound.Given as goal

abbrev pub invariant-loop-s : goal.invariant-loop-s
invariant-loop-s l = l.least ≡ least_seen l.most l.seen l.s-index
