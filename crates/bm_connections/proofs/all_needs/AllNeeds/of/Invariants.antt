use Rattle.std.proofs.Common.{reverse, take}
use Rattle.bm_connections.specs.Inside.Needs.{HasNeeds}
use Rattle.bm_connections.specs.Inside.Resets.{KnowsResets}
use Rattle.bm_connections.proofs.all_needs.AllNeeds.of.Given as goal

abbrev pub invariant-loop-place : goal.invariant-loop-place
invariant-loop-place l = record {
  needs : HasNeeds l.h.stage (reverse (take l.place l.events)) l.all;
  resets : KnowsResets l.h.stage (reverse (take l.place l.events)) l.resets;
}
