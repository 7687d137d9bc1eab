use Rattle.std.proofs.Common.{◌++◌, List, ℕ, flat_map, take}
use Rattle.bm_connections.specs.Base.{compared_with}
use Rattle.bm_connections_cli.specs.Csv.{connection_record}
use Rattle.bm_connections_cli.specs.Inside.Rows.{HasWritten}
use Rattle.bm_connections_cli.proofs.fields.write_connections.Given as goal

abbrev pub invariant-loop-place : goal.invariant-loop-place
invariant-loop-place g l = record {
  written : (octets : List ℕ) → HasWritten g.W.Write.contents l.initial.csv octets →
      HasWritten g.W.Write.contents l.csv
      (octets ++ flat_map (connection_record l.clock.0 l.racks) (take l.place (compared_with l.table l.wholes)));
}
