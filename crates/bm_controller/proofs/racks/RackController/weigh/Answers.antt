use Rattle.bm_controller.proofs.Racked.{home_result, racked_result}
use Rattle.bm_controller.proofs.racks.RackController.weigh.Goals as goal
use Rattle.bm_controller.specs.Commands.Command.{WeighServer}

pub returns-clause-racked : goal.returns-clause-racked
returns-clause-racked g c = λ rack racked.
    racked_result rack c.args.self.now.engine c.weigh.new.self c.args.at (WeighServer c.args.s c.args.weight) c.weigh.result
    c.weigh.ensures.ok c.weigh.ensures.err tt racked

pub returns-clause-home : goal.returns-clause-home
returns-clause-home g c = λ rack racked.
    home_result rack c.args.self.now.engine c.weigh.new.self c.args.at (WeighServer c.args.s c.args.weight) c.weigh.result
    c.weigh.ensures.ok c.weigh.ensures.rebalanced tt racked
