use Rattle.std.proofs.Common.{◌≡◌, ◌++◌, flat_map, string_bytes, take}
use Rattle.bm_connections.specs.NeededText.{change_line}
use Rattle.bm_connections.proofs.needed_text.write_changes.Given as goal

abbrev pub invariant-loop-change : goal.invariant-loop-change
invariant-loop-change l = record {
  written : string_bytes l.text
      ≡ string_bytes l.initial.text ++ flat_map (change_line l.clock.0) (take l.change-index l.changes);
}
