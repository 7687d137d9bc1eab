use Rattle.std.proofs.Common.{◌≡◌, ◌^◌, ◌-◌, length, min, take}
use Rattle.bm_merge.specs.Merges.{joined}
use Rattle.bm_merge.proofs.logs.room_for.Given as goal

abbrev pub invariant-loop-log : goal.invariant-loop-log
invariant-loop-log l = l.room ≡ min (length (joined (take l.log-index l.logs))) (2 ^ 64 - 1)
