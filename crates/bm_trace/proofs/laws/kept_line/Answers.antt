use Rattle.bm_core.specs.Rules.{RouteBy, RuleBy}
use Rattle.bm_trace.proofs.Kept.{kept_line_law}
use Rattle.bm_trace.proofs.laws.kept_line.Goals as goal

pub returns : goal.returns
returns c = λ mux fate fates account.
    kept_line_law (RouteBy mux) (RuleBy fate) c.args.h.now c.args.packet fates c.requires.run c.requires.steered
    c.requires.unbroken account
