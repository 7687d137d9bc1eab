use Rattle.bm_connections.proofs.Closing.{end_more}
use Rattle.bm_connections.proofs.endings.end_all.Goals as goal

pub loop-place-preserved : goal.loop-place-preserved
loop-place-preserved c =
    end_more c.args.closed.now c.args.resets.now c.args.connections.now c.loop-place.connections c.loop-place.place _ _
    c.loop-place-test.true c.loop-place.auto.connections c.loop-place.invariant c.with_end.ensures
