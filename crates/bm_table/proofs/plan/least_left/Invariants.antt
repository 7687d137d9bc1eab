use Rattle.std.proofs.Common.{◌≡◌, take}
use Rattle.bm_table.specs.Inside.Leaves.{least_since}
use Rattle.bm_table.proofs.plan.least_left.Given as goal

abbrev pub invariant-loop-step : goal.invariant-loop-step
invariant-loop-step l = l.least ≡ least_since (take l.step-index l.steps) l.s l.since.0
