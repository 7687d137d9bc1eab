use Rattle.std.proofs.Common.{◌≡◌, drop, max}
use Rattle.bm_lifetime.specs.Lifetime.{greatest}
use Rattle.bm_lifetime.proofs.script.greatest.Given as goal

abbrev pub invariant-loop-n : goal.invariant-loop-n
invariant-loop-n l = max l.most (greatest (drop l.n-index l.numbers)) ≡ greatest l.numbers
