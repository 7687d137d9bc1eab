use Rattle.std.proofs.Common.{◌≡◌, ◌≤◌, ◌*◌, sum}
use Rattle.std.specs.Prelude.{take}
use Rattle.bm_quota.proofs.share.total_weight.Given as goal

abbrev pub invariant-loop-i : goal.invariant-loop-i
invariant-loop-i l = (l.total ≡ sum (take l.i l.fn.weights)) × (l.total ≤ l.i * 1000)
