use Rattle.bm_connections.proofs.Closing.{closed_more}
use Rattle.bm_connections.proofs.closed.observe_close.Goals as goal

pub returns : goal.returns
returns c = λ past k.
    closed_more c.args.stage.now past c.args.event.now c.args.closed.now _ c.closing_of.result c.closing_of.ensures
    c.in_ok-change.ensures k
