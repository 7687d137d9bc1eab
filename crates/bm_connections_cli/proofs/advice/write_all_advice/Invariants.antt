use Rattle.std.proofs.Common.{◌≡◌, ◌++◌, flat_map, string_bytes, take}
use Rattle.bm_connections_cli.specs.Advice.{advice_line}
use Rattle.bm_connections_cli.proofs.advice.write_all_advice.Given as goal

abbrev pub invariant-loop-count : goal.invariant-loop-count
invariant-loop-count l = record {
  written : string_bytes l.text ≡ string_bytes l.initial.text
      ++ flat_map (λ c. advice_line c.cause) (take l.count-index l.counts);
}
