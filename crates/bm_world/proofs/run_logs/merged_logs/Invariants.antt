use Rattle.std.proofs.Common.{◌≡◌, map, take}
use Rattle.bm_world.specs.Inside.Logged.{group_events}
use Rattle.bm_world.proofs.run_logs.merged_logs.Given as goal

abbrev pub invariant-loop-group : goal.invariant-loop-group
invariant-loop-group l = map (λ log. log.now) l.logs.items ≡ map group_events (take l.group-index l.groups)
