use Rattle.std.proofs.Common.{◌≡◌, map, take}
use Rattle.bm_merge.specs.Merges.{joined}
use Rattle.bm_merge.proofs.rising.join_all.Given as goal

abbrev pub invariant-loop-log : goal.invariant-loop-log
invariant-loop-log g l = l.events.items ≡ joined (map g.L.EventLog.events (take l.log-index l.logs))
