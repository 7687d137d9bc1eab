use Rattle.std.proofs.Common.{arith, rules}
use Rattle.bm_io.proofs.Known.{appends_more, within_piece}
use Rattle.bm_io.proofs.put.put_all.Goals as goal

pub loop-at-init : goal.loop-at-init
loop-at-init g c = search rules

pub loop-at-preserved : goal.loop-at-preserved
loop-at-preserved g c = record {
  within = within_piece c.args.piece.now c.loop-at.at c.in_ok-at.field-0 c.loop-at.invariant.within
      c.in_ok-at.ensures.bound;
  so_far = appends_more _ _ _ c.args.piece.now c.loop-at.at c.in_ok-at.field-0 c.loop-at.invariant.so_far
      c.in_ok-at.ensures.octets;
  later = omega (arith, c.in_ok-at.ensures.cause.kept, c.loop-at.invariant.later);
}
