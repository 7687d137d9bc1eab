use Rattle.std.proofs.Common.{reverse, take}
use Rattle.bm_connections.specs.Inside.Counters.{HasCounted}
use Rattle.bm_connections.specs.Inside.Resets.{KnowsResets}
use Rattle.bm_connections.proofs.counters.Counters.of.Given as goal

abbrev pub invariant-loop-place : goal.invariant-loop-place
invariant-loop-place l = record {
  counted : HasCounted l.h.stage (reverse (take l.place l.events)) l.counters;
  resets : KnowsResets l.h.stage (reverse (take l.place l.events)) l.resets;
}
