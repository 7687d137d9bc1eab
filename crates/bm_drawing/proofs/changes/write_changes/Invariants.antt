use Rattle.std.proofs.Common.{◌≡◌, ◌++◌, drop, string_bytes}
use Rattle.bm_drawing.specs.Drawing.{all_free, changes}
use Rattle.bm_drawing.proofs.changes.write_changes.Given as goal

abbrev pub invariant-loop-change : goal.invariant-loop-change
invariant-loop-change l = record {
  written : string_bytes l.text ++ changes l.plot l.free (drop l.change-index l.changes)
      ≡ string_bytes l.initial.text ++ changes l.plot all_free l.changes;
}
