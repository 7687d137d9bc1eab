use Rattle.std.proofs.Common.{reverse, take}
use Rattle.bm_connections.specs.Inside.Stories.{Tells}
use Rattle.bm_connections.proofs.story.story_text.Given as goal

abbrev pub invariant-loop-place : goal.invariant-loop-place
invariant-loop-place l = record {
  told : Tells l.clock.0 l.h.stage l.flow (reverse (take l.place l.events)) l.story;
}
