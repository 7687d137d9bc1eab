use Rattle.std.proofs.Common.{◌∙◌, arith}
use Rattle.bm_drawing.proofs.Decades.{decade_is}
use Rattle.bm_drawing.proofs.scale.decade.Goals as goal

pub returns-clause-value : goal.returns-clause-value
returns-clause-value c =
    c.pow.ensures
    ∙ decade_is c.ilog10.result c.args.n c.ilog10.ensures.power_le c.ilog10.ensures.next_power_gt (omega arith)
