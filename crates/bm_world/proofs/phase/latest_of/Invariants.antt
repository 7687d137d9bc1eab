use Rattle.std.proofs.Common.{◌≡◌, drop, max}
use Rattle.bm_world.specs.Inside.RunStates.{latest_in}
use Rattle.bm_world.proofs.phase.latest_of.Given as goal

abbrev pub invariant-loop-worker : goal.invariant-loop-worker
invariant-loop-worker l =
    max l.latest.0 (latest_in (drop l.worker-index l.workers)) ≡ max l.leader.caller.latest (latest_in l.workers)
