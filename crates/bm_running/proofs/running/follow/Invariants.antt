use Rattle.std.specs.Prelude.{reverse, take}
use Rattle.bm_running.specs.Inside.Known.{Knows}
use Rattle.bm_running.proofs.running.follow.Given as goal

abbrev pub invariant-loop-place : goal.invariant-loop-place
invariant-loop-place l = Knows l.stage (reverse (take l.place l.events)) l.known
