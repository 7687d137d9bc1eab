use Rattle.std.proofs.Common.{◌≡◌, ◌-◌}
use Rattle.std.specs.List.{list_all, range_with_len}
use Rattle.bm_script.specs.Values.{are_filled, has_server}
use Rattle.bm_script.proofs.racks.are_filled.Given as goal

abbrev pub invariant-loop-rack : goal.invariant-loop-rack
invariant-loop-rack l = record {
  rest : list_all (has_server l.racks l.servers) (range_with_len l.rack (l.racks - l.rack)) ≡ are_filled l.racks l.servers;
}
