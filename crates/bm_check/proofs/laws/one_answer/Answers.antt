use Rattle.bm_core.specs.Rules.{RouteBy, RuleBy}
use Rattle.bm_check.proofs.OneAnswer.{one_answer}
use Rattle.bm_check.proofs.laws.one_answer.Goals as goal

pub returns : goal.returns
returns c = λ mux fate trace a b. one_answer (RouteBy mux) (RuleBy fate) c.args.stage.now trace a b
