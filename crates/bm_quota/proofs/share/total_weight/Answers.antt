use Rattle.std.proofs.Common.{arith}
use Rattle.bm_quota.proofs.Claims.{rise-at}
use Rattle.bm_quota.proofs.share.total_weight.Goals as goal

pub overflow_add-total : goal.overflow_add-total
overflow_add-total c =
    omega (
      arith,
      c.loop-i.invariant.1,
      c.from-total.ensures,
      (c.requires.range c.loop-i.i 0 (omega arith)).1,
      rise-at 0 c.args.active.now c.loop-i.i (record { 0 = 0 }) c.requires.rising c.loop-i-test.true,
      c.if-prove.false,
    )
