use Rattle.std.proofs.Common.{arith, rules}
use Rattle.std.proofs.lemmas.Grind.{common_steps}
use Rattle.bm_ipv4.specs.Header.{ipv4_of}
use Rattle.bm_ipv4.proofs.view.read_ipv4.Goals as goal

pub returns : goal.returns
unfolding ipv4_of
returns c = search rules

pub invariant_of-result : goal.invariant_of-result
invariant_of-result c = grind (arith, common_steps)

pub returns-then-total-header : goal.returns-then-total-header
unfolding ipv4_of
returns-then-total-header c = search rules
