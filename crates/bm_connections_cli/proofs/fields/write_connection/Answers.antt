use Rattle.std.proofs.Common.{◌++◌, subst}
use Rattle.std.specs.Prelude.{OnOk}
use Rattle.bm_connections_cli.specs.Csv.{csv_line}
use Rattle.bm_connections_cli.specs.Inside.Rows.{HasWritten}
use Rattle.bm_connections_cli.proofs.fields.write_connection.Goals as goal

pub returns : goal.returns
returns g c octets is =
    subst (λ f. OnOk c.write_fields.result (HasWritten g.W.Write.contents c.write_fields.new.csv
    (octets ++ csv_line f))) c.in_ok-fields.ensures (c.write_fields.ensures octets is)
