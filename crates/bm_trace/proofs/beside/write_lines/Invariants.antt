use Rattle.std.proofs.Common.{take, reverse, string_bytes}
use Rattle.bm_trace.specs.Inside.Pieces.{AreLines}
use Rattle.bm_state.specs.Versions.{KeepsVersions}
use Rattle.bm_trace.proofs.beside.write_lines.Given as goal

abbrev pub invariant-loop-place : goal.invariant-loop-place
invariant-loop-place l = record {
  lines : AreLines l.h l.from l.place (string_bytes l.lines);
  known : KeepsVersions (reverse (take l.place l.h.events)) l.versions;
}
