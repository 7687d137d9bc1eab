use Rattle.std.proofs.Common.{◌≡◌, ◌++◌, drop, string_bytes}
use Rattle.bm_drawing.specs.Drawing.{connections}
use Rattle.bm_drawing.proofs.rows.write_connections.Given as goal

abbrev pub invariant-loop-place : goal.invariant-loop-place
invariant-loop-place l = record {
  written : string_bytes l.text ++ connections l.plot l.place (drop l.place l.table)
      ≡ string_bytes l.initial.text ++ connections l.plot 0 l.table;
}
