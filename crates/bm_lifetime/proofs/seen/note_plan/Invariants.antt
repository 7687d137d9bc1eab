use Rattle.std.proofs.Common.{suc, ◌≤◌, drop, length}
use Rattle.bm_lifetime.specs.Inside.Seen.{IsSeen}
use Rattle.bm_lifetime.proofs.seen.note_plan.Given as goal

abbrev pub invariant-loop-left : goal.invariant-loop-left
invariant-loop-left l = record {
  known : l.left ≤ length l.plan.changes;
  noted : IsSeen l.lag (length l.fn.seen) (suc l.left) (drop l.left l.plan.changes) l.seen;
}

abbrev pub decreases-loop-left : goal.decreases-loop-left
decreases-loop-left l = l.left
