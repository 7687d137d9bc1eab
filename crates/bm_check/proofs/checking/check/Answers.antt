use Rattle.bm_fault.specs.Faults.{Gives}
use Rattle.bm_route.specs.Routes.{Answers}
use Rattle.bm_check.proofs.Answering.{only_answer}
use Rattle.bm_check.proofs.checking.check.Goals as goal

pub returns-clause-yes : goal.returns-clause-yes
returns-clause-yes g c h here fits run account is =
    only_answer (Answers g.R.Fn c.args.route.now.rule) (Gives g.F.Fn c.args.faults.now.rule) c.args.stage
    c.args.trace.now h here fits run account is c.in_ok-answer.answer c.in_ok-answer.ensures
