use Rattle.std.proofs.Common.{◌≡◌}
use Rattle.bm_lifetime.specs.Inside.Seen.{least_next}
use Rattle.bm_lifetime.proofs.seen.next_bound.Given as goal

abbrev pub invariant-loop-s : goal.invariant-loop-s
invariant-loop-s l = l.next ≡ least_next l.most l.time l.seen l.s-index
