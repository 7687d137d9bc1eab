use Rattle.std.proofs.Common.{◌≡◌, drop}
use Rattle.bm_world.specs.Inside.Logged.{one_refused}
use Rattle.bm_world.proofs.run_logs.is_one_refused.Given as goal

abbrev pub invariant-loop-group : goal.invariant-loop-group
invariant-loop-group l = one_refused (drop l.group-index l.groups) ≡ one_refused l.groups
