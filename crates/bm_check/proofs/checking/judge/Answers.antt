use Rattle.std.proofs.Common.{arith, subst}
use Rattle.bm_fault.specs.Faults.{Gives}
use Rattle.bm_route.specs.Routes.{Answers}
use Rattle.bm_check.proofs.Answering.{events_few}
use Rattle.bm_check.specs.Inside.Checking.{IsFound}
use Rattle.bm_check.specs.declared.checking.Found.TheVariants.{Events}
use Rattle.bm_check.proofs.checking.judge.Goals as goal

pub compare-requires-clause-few : goal.compare-requires-clause-few
compare-requires-clause-few g c =
    let R = Answers g.R.Fn c.args.route.now.rule
    in let F = Gives g.F.Fn c.args.faults.now.rule
    in let found : IsFound R F c.args.stage c.args.trace.now (Events c.in-Events.events) =
    subst (λ x. IsFound R F c.args.stage c.args.trace.now x) c.in-Events.is c.in_ok-answer.ensures
    in let few = events_few c.in-Events.events c.args.trace.now found.0
    in let short = c.requires.short
    in omega (arith, few, short)
