use Rattle.bm_connections_cli.specs.Csv.{header}
use Rattle.bm_connections_cli.proofs.Rows.{record_more}
use Rattle.bm_connections_cli.proofs.fields.write_header.Goals.{in-Ok, in-Err}
use Rattle.bm_connections_cli.proofs.fields.write_header.Goals as goal

pub returns : goal.returns
returns g c octets is = elim c.match-write_fields.branch [
  | in-Ok w ↦ rw w.result-is (record_more g.W.Write.contents _ _ octets header is w.in-Ok.ensures.bytes
      w.in-Ok.ensures.ended w.in-Ok.ensures.clean w.in-Ok.ensures.setup)
  | in-Err w ↦ rw w.result-is tt
]
