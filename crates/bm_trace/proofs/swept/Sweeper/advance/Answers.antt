use Rattle.std.proofs.Common.{arith}
use Rattle.bm_trace.proofs.Sweeping.{causes_more, events_end, swept_to}
use Rattle.bm_trace.proofs.swept.Sweeper.advance.Goals as goal

pub loop-place-preserved : goal.loop-place-preserved
loop-place-preserved c =
    let begun = c.loop-place.invariant.begun
    in let before = c.loop-place-test.true
    in let end = events_end c.args.h.now c.items-end.result.now c.args.to _ c.items-end.ensures c.min-place-end.ensures
    in record {
      begun = omega (arith, begun);
      within = omega (arith, before, end);
      swept = c.in_ok-pass.ensures.swept;
      found = causes_more c.args.h.now c.args.from c.loop-place.place _ _ _ begun (omega (arith, before, end))
          c.in_ok-pass.ensures.cause c.in_ok-push.ensures.items c.loop-place.invariant.found;
    }

pub returns-clause-swept : goal.returns-clause-swept
returns-clause-swept c =
    let within = c.loop-place.invariant.within
    in let after = c.loop-place-test.false
    in let end = events_end c.args.h.now c.items-end.result.now c.args.to _ c.items-end.ensures c.min-place-end.ensures
    in swept_to c.args.h.now c.loop-place.place c.args.to _ (omega (arith, within, end, after))
    c.loop-place.invariant.swept
