use Rattle.std.proofs.Common.{◌≡◌, ◌≤◌, ◌-◌, length}
use Rattle.bm_cli.specs.Inside.Fronts.{IsTaken}
use Rattle.bm_cli.proofs.front.take_front.Given as goal

abbrev pub invariant-loop-alloc : goal.invariant-loop-alloc
invariant-loop-alloc g l = record {
  few : length l.text.items ≤ l.most;
  taken : IsTaken (g.S.Source.left l.fn.src) (g.S.Source.left l.src) l.text.items;
  later : g.S.Source.faults l.src ≡ g.S.Source.faults l.fn.src;
}

abbrev pub decreases-loop-alloc : goal.decreases-loop-alloc
decreases-loop-alloc g l = l.most - length l.text.items
