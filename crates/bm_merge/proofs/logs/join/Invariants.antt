use Rattle.std.proofs.Common.{◌≡◌, take}
use Rattle.bm_merge.specs.Merges.{joined}
use Rattle.bm_merge.proofs.logs.join.Given as goal

abbrev pub invariant-loop-log : goal.invariant-loop-log
invariant-loop-log l = l.events.items ≡ joined (take l.log-index l.logs)
