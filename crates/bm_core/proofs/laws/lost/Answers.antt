use Rattle.bm_core.proofs.laws.lost.Goals as goal
use Rattle.bm_core.specs.Rules.{RouteBy, RuleBy}
use Rattle.bm_core.proofs.Ends.{lost_law}

pub returns : goal.returns
returns c = λ mux fate fates account hop.
    lost_law (RouteBy mux) (RuleBy fate) c.args.h.now c.args.packet hop fates c.requires account
