use Rattle.std.proofs.Common.{◌≡◌, ◌≤◌, ◌++◌, length, map, take}
use Rattle.bm_merge.specs.Merges.{joined}
use Rattle.bm_merge.specs.Rising.{in_order}
use Rattle.bm_merge.specs.Inside.Rising.{AreStanding, lefts}
use Rattle.bm_merge.proofs.rising.fill.Given as goal

abbrev pub invariant-loop-place : goal.invariant-loop-place
invariant-loop-place g l = record {
  within : l.place ≤ length l.out;
  standing : AreStanding (map g.L.EventLog.events l.logs) l.heads.items;
  all : take l.place l.out ++ in_order (joined (lefts (map g.L.EventLog.events l.logs) l.heads.items))
      ≡ in_order (joined (map g.L.EventLog.events l.logs));
  size : length l.out ≡ length (joined (map g.L.EventLog.events l.logs));
}
