use Rattle.std.proofs.Common.{◌≡◌, ◌++◌, flat_map, string_bytes, take}
use Rattle.bm_connections.specs.Text.{cause_line}
use Rattle.bm_connections.proofs.summary_text.write_causes.Given as goal

abbrev pub invariant-loop-cause : goal.invariant-loop-cause
invariant-loop-cause l = record {
  written : string_bytes l.text ≡ string_bytes l.initial.text ++ flat_map cause_line (take l.cause-index l.causes);
}
