use Rattle.bm_controller.proofs.Racked.{home_result, racked_result}
use Rattle.bm_controller.proofs.racks.RackController.drain.Goals as goal
use Rattle.bm_controller.specs.Commands.Command.{DrainServer}

pub returns-clause-racked : goal.returns-clause-racked
returns-clause-racked g c = λ rack racked.
    racked_result rack c.args.self.now.engine c.drain.new.self c.args.at (DrainServer c.args.s) c.drain.result
    c.drain.ensures.ok c.drain.ensures.err tt racked

pub returns-clause-home : goal.returns-clause-home
returns-clause-home g c = λ rack racked.
    home_result rack c.args.self.now.engine c.drain.new.self c.args.at (DrainServer c.args.s) c.drain.result
    c.drain.ensures.ok c.drain.ensures.rebalanced tt racked
