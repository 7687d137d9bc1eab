use Rattle.std.proofs.Common.{refl, ◌∙◌}
use Rattle.bm_running.proofs.Leaving.{left_more}
use Rattle.bm_running.proofs.leaves.Leaves.leave_all.Goals as goal

pub loop-place-preserved : goal.loop-place-preserved
loop-place-preserved c = record {
  left = λ are s.
      left_more c.args.plan.now c.args.changes c.args.list.now c.loop-place.place _ s _ c.entry.result _ _
      c.requires.plan c.requires.within c.loop-place-test.true c.requires.moment refl c.entry.ensures
      (c.in_ok-leave.ensures.left (c.loop-place.invariant.left are c.entry.result.cur.0).rises s)
      (c.loop-place.invariant.left are s);
  drained = c.leave.ensures.drained ∙ c.loop-place.invariant.drained;
}
