use Rattle.std.proofs.Common.{◌≡◌, ◌^◌, ◌-◌, length, map, min, take}
use Rattle.bm_merge.specs.Merges.{joined}
use Rattle.bm_merge.proofs.rising.room_of.Given as goal

abbrev pub invariant-loop-log : goal.invariant-loop-log
invariant-loop-log g l = l.room ≡ min (length (joined (map g.L.EventLog.events (take l.log-index l.logs)))) (2 ^ 64 - 1)
