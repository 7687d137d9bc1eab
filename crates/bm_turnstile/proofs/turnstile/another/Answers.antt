use Rattle.std.proofs.Common.{rules}
use Rattle.bm_turnstile.proofs.turnstile.another.Goals as goal

pub invariant_of-result : goal.invariant_of-result
invariant_of-result c = search rules
