use Rattle.std.proofs.Common.{rules}
use Rattle.bm_route.proofs.route.Route.mux_of.Goals as goal

pub returns-clause-answer : goal.returns-clause-answer
returns-clause-answer g c = search rules

pub returns-clause-below : goal.returns-clause-below
returns-clause-below g c = search rules
