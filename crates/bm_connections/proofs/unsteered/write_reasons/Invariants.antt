use Rattle.std.proofs.Common.{◌≡◌, ◌++◌, flat_map, string_bytes, take}
use Rattle.bm_connections.specs.Unsteered.{reason_text}
use Rattle.bm_connections.proofs.unsteered.write_reasons.Given as goal

abbrev pub invariant-loop-count : goal.invariant-loop-count
invariant-loop-count l = record {
  written : string_bytes l.text ≡ string_bytes l.initial.text ++ flat_map reason_text (take l.count-index l.counts);
}
