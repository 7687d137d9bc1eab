use Rattle.std.proofs.Common.{◌≡◌, ◌++◌, flat_map, string_bytes, take}
use Rattle.bm_connections.specs.NeededText.{thrice_line}
use Rattle.bm_connections.proofs.needed_text.write_all_moved.Given as goal

abbrev pub invariant-loop-m : goal.invariant-loop-m
invariant-loop-m l = record {
  written : string_bytes l.text
      ≡ string_bytes l.initial.text ++ flat_map thrice_line (take l.m-index l.moved);
}
