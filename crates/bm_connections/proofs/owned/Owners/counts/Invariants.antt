use Rattle.std.proofs.Common.{◌≡◌}
use Rattle.bm_connections.specs.Owned.{owned_below}
use Rattle.bm_connections.proofs.owned.Owners.counts.Given as goal

abbrev pub invariant-loop-number : goal.invariant-loop-number
invariant-loop-number l = l.found.items ≡ owned_below l.number l.self.owners
