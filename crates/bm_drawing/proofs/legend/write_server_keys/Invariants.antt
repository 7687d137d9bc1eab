use Rattle.std.proofs.Common.{◌≡◌, ◌++◌, drop, string_bytes}
use Rattle.bm_drawing.specs.Drawing.{server_keys}
use Rattle.bm_drawing.proofs.legend.write_server_keys.Given as goal

abbrev pub invariant-loop-place : goal.invariant-loop-place
invariant-loop-place l = record {
  written : string_bytes l.text ++ server_keys l.place (drop l.place l.servers)
      ≡ string_bytes l.initial.text ++ server_keys 0 l.servers;
}
