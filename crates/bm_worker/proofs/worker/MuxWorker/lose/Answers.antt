use Rattle.bm_worker.proofs.Carrying.{loss_is}
use Rattle.bm_worker.proofs.worker.MuxWorker.lose.Goals as goal

pub returns : goal.returns
returns c =
    loss_is c.args.packet c.args.clock.0 c.args.hop c.args.self.now c.lost.new.self c.lose.new.self
    c.in_ok-lost.ensures.ok
    c.lose.ensures.same c.lose.ensures.seats c.lose.ensures.tries c.lose.ensures.latest
