use Rattle.std.proofs.Common.{arith, rules}
use Rattle.bm_quota.proofs.StepLemmas.{AreRooms-more}
use Rattle.bm_quota.proofs.rebalance.make_room.Goals as goal

pub loop-i-preserved : goal.loop-i-preserved
loop-i-preserved c = record {
  long = search rules;
  are = AreRooms-more c.args.active.now c.args.quotas.now c.loop-i.rooms c.loop-i.i (record { 0 = 0 })
      (omega arith) (omega arith) (search rules) c.loop-i.invariant.are;
}
