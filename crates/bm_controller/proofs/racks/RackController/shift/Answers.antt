use Rattle.bm_controller.proofs.Racked.{racked_result}
use Rattle.bm_controller.proofs.racks.RackController.shift.Goals as goal
use Rattle.bm_controller.specs.Commands.Command.{MoveBucket}

pub returns-clause-racked : goal.returns-clause-racked
returns-clause-racked g c = λ rack racked.
    racked_result rack c.args.self.now.engine c.shift.new.self c.args.at (MoveBucket c.args.bucket c.args.s)
    c.shift.result c.shift.ensures.ok c.shift.ensures.err tt racked
