use Rattle.std.proofs.Common.{◌++◌, subst}
use Rattle.csv.specs.Records.{fields_of}
use Rattle.bm_connections_cli.specs.Csv.{csv_line}
use Rattle.bm_connections_cli.specs.Inside.Rows.{HasWritten}
use Rattle.bm_connections_cli.proofs.Rows.{record_more}
use Rattle.bm_connections_cli.proofs.fields.write_fields.Goals.{in-Ok, in-Err}
use Rattle.bm_connections_cli.proofs.fields.write_fields.Goals as goal

pub returns : goal.returns
returns g c octets is =
    let row = fields_of c.row.result.now in
    let contents = g.W.Write.contents in
    let new = c.write_byte_record.new.self in
    elim c.match-write_byte_record.branch [
      | in-Ok w ↦
          let made = record_more contents c.args.csv.now new octets row is w.in-Ok.ensures.bytes w.in-Ok.ensures.ended
          w.in-Ok.ensures.clean w.in-Ok.ensures.setup in
          rw w.result-is (subst (λ f. HasWritten contents new (octets ++ csv_line f)) c.row.ensures made)
      | in-Err w ↦ rw w.result-is tt
    ]
