use Rattle.std.proofs.Common.{reverse, take}
use Rattle.bm_connections.specs.Inside.Closed.{AreClosed}
use Rattle.bm_connections.specs.Inside.Resets.{KnowsResets}
use Rattle.bm_connections.specs.Inside.Rows.{AreRows}
use Rattle.bm_connections.specs.Inside.Stamps.{KnowsStamps}
use Rattle.bm_connections.specs.Seen.{records_of}
use Rattle.bm_connections.proofs.observed.observe_each.Given as goal

abbrev pub invariant-loop-place : goal.invariant-loop-place
invariant-loop-place l = record {
  rows : AreRows l.h.stage (records_of l.h.stage) (reverse (take l.place l.events)) l.rows;
  closed : AreClosed l.h.stage (reverse (take l.place l.events)) l.closed;
  resets : KnowsResets l.h.stage (reverse (take l.place l.events)) l.resets;
  known : KnowsStamps l.h.stage (reverse (take l.place l.events)) l.stamps;
}
