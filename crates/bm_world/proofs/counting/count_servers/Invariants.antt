use Rattle.std.proofs.Common.{◌≡◌, ◌+◌, ◌-◌, ◌≤◌}
use Rattle.bm_world.specs.Seats.{known_up_to}
use Rattle.bm_world.proofs.counting.count_servers.Given as goal

abbrev pub invariant-loop-number : goal.invariant-loop-number
invariant-loop-number l = record {
  known : l.known ≡ known_up_to l.script.plan (l.number - 1);
  few : l.known + 1 ≤ l.number;
}
