use Rattle.std.proofs.Common.{arith}
use Rattle.bm_connections.proofs.Counted.{count-room}
use Rattle.bm_connections.proofs.owned.counts_of.Goals as goal

pub add_one-requires : goal.add_one-requires
add_one-requires c =
    let room =
    count-room c.args.owners.now c.loop-owner.counts.items c.loop-owner.owner-index c.loop-owner.auto.owner-index-end
    c.loop-owner.invariant.counted in
    omega (arith, room)
