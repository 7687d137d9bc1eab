use Rattle.bm_connections.proofs.Counted.{opening-more}
use Rattle.bm_connections.proofs.owned.opening_owners.Goals as goal

pub loop-bucket-preserved : goal.loop-bucket-preserved
loop-bucket-preserved c =
    opening-more c.args.plan.now c.loop-bucket.bucket c.opening.result c.loop-bucket.owners.items _ c.opening.ensures
    c.in_ok-push.ensures.items c.loop-bucket.invariant
