use Rattle.std.proofs.Common.{◌≡◌, ◌++◌, map, take, drop}
use Rattle.bm_world.specs.Inside.RunStates.{with_posts}
use Rattle.bm_world.proofs.phase.give_snapshots.Given as goal

abbrev pub invariant-loop-place : goal.invariant-loop-place
invariant-loop-place l =
    l.workers ≡ map (with_posts l.poster) (take l.place l.fn.workers) ++ drop l.place l.fn.workers
