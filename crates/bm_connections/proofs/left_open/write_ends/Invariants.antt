use Rattle.std.proofs.Common.{◌≡◌, ◌++◌, flat_map, string_bytes, take}
use Rattle.bm_connections.specs.OpenEnds.{open_end_line}
use Rattle.bm_connections.proofs.left_open.write_ends.Given as goal

abbrev pub invariant-loop-end : goal.invariant-loop-end
invariant-loop-end l = record {
  written : string_bytes l.text ≡ string_bytes l.initial.text ++ flat_map open_end_line (take l.end-index l.ends);
}
