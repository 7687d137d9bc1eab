use Rattle.bm_core.proofs.laws.ended.Goals as goal
use Rattle.bm_core.specs.Rules.{RouteBy, RuleBy}
use Rattle.bm_core.proofs.Ends.{ended_law}

pub returns : goal.returns
returns c = λ mux fate fates account.
    ended_law (RouteBy mux) (RuleBy fate) c.args.h.now c.args.packet fates c.requires.run c.requires.steered account
