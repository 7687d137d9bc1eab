use Rattle.bm_core.proofs.laws.kept.Goals as goal
use Rattle.bm_core.specs.Rules.{RouteBy, RuleBy}
use Rattle.bm_core.proofs.Ends.{kept_law}

pub returns : goal.returns
returns c = λ mux fate fates account.
    kept_law (RouteBy mux) (RuleBy fate) c.args.h.now c.args.packet fates c.requires.run c.requires.steered
    c.requires.unbroken account
