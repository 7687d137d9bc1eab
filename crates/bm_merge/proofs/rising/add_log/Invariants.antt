use Rattle.std.proofs.Common.{◌≡◌, ◌≤◌, ◌++◌, length, take}
use Rattle.bm_merge.proofs.rising.add_log.Given as goal

abbrev pub invariant-loop-place : goal.invariant-loop-place
invariant-loop-place g l = record {
  within : l.place ≤ length (g.L.EventLog.events l.log);
  items : l.events.items ≡ l.fn.events.items ++ take l.place (g.L.EventLog.events l.log);
}
