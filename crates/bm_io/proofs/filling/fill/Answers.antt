use Rattle.std.proofs.Common.{arith}
use Rattle.bm_io.proofs.Filled.{filled_more, filled_within}
use Rattle.bm_io.proofs.filling.fill.Goals as goal

pub loop-at-preserved : goal.loop-at-preserved
loop-at-preserved g c = record {
  within = filled_within c.loop-at.at c.in_ok-count.count c.loop-at.buf c.take.new.buf c.loop-at.invariant.within
      c.take.auto.buf c.in_ok-count.ensures.bound.0;
  so_far = filled_more _ _ _ c.loop-at.at c.in_ok-count.count c.loop-at.buf c.take.new.buf c.loop-at.invariant.within
      c.in_ok-count.ensures.bound.0 c.loop-at.invariant.so_far c.in_ok-count.ensures.octets.0;
  later = omega (arith, c.in_ok-count.ensures.cause.kept, c.loop-at.invariant.later);
}
