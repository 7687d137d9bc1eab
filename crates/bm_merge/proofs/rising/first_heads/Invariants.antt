use Rattle.std.proofs.Common.{◌≡◌, ◌≤◌, length, map, take}
use Rattle.bm_merge.specs.Merges.{joined}
use Rattle.bm_merge.specs.Inside.Rising.{AreStanding, lefts}
use Rattle.bm_merge.proofs.rising.first_heads.Given as goal

abbrev pub invariant-loop-log : goal.invariant-loop-log
invariant-loop-log g l = record {
  within : l.log ≤ length l.logs;
  standing : AreStanding (map g.L.EventLog.events l.logs) l.heads.items;
  all : joined (lefts (map g.L.EventLog.events l.logs) l.heads.items)
      ≡ joined (take l.log (map g.L.EventLog.events l.logs));
}
