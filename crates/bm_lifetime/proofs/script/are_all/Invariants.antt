use Rattle.std.proofs.Common.{◌≡◌, drop}
use Rattle.bm_lifetime.specs.Lifetime.{are_all}
use Rattle.bm_lifetime.proofs.script.are_all.Given as goal

abbrev pub invariant-loop-x : goal.invariant-loop-x
invariant-loop-x l = are_all l.n (drop l.x-index l.numbers) ≡ are_all l.n l.numbers
