use Rattle.std.proofs.Common.{◌≡◌, ◌++◌, flat_map, string_bytes, take}
use Rattle.bm_connections.specs.Base.{compared_with}
use Rattle.bm_connections_cli.specs.Json.{json_line}
use Rattle.bm_connections_cli.proofs.json.write_values.Given as goal

abbrev pub invariant-loop-place : goal.invariant-loop-place
invariant-loop-place l = record {
  written : string_bytes l.text ≡ string_bytes l.initial.text
      ++ flat_map (json_line l.clock.0 l.racks) (take l.place (compared_with l.table l.wholes));
}
