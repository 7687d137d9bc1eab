use Rattle.std.proofs.Common.{◌≡◌, ◌++◌, length, map}
use Rattle.bm_merge.specs.Merges.{joined}
use Rattle.bm_merge.specs.Rising.{in_order}
use Rattle.bm_merge.specs.Inside.Rising.{AreStanding, lefts}
use Rattle.bm_merge.proofs.rising.take_all.Given as goal

abbrev pub invariant-loop-events : goal.invariant-loop-events
invariant-loop-events g l = record {
  standing : AreStanding (map g.L.EventLog.events l.logs) l.heads.items;
  all : l.events.items ++ in_order (joined (lefts (map g.L.EventLog.events l.logs) l.heads.items))
      ≡ in_order (joined (lefts (map g.L.EventLog.events l.logs) l.fn.heads.items));
}

abbrev pub decreases-loop-events : goal.decreases-loop-events
decreases-loop-events g l = length (in_order (joined (lefts (map g.L.EventLog.events l.logs) l.heads.items)))
