use Rattle.std.proofs.Common.{◌≤◌, length, min}
use Rattle.bm_trace.specs.Inside.Swept.{AreCausesOf, HasSwept}
use Rattle.bm_trace.proofs.swept.Sweeper.advance.Given as goal

abbrev pub invariant-loop-place : goal.invariant-loop-place
invariant-loop-place l = record {
  begun : min l.from (length l.h.events) ≤ l.place;
  within : l.place ≤ min l.to (length l.h.events);
  swept : HasSwept l.h l.place l.self;
  found : AreCausesOf l.h l.from l.place l.causes.items;
}
