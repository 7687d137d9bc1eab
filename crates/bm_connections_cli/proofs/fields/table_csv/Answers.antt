use Rattle.std.proofs.Common.{Some, [], ap, ap₂, ◌∙◌}
use Rattle.std.specs.Io.KnownBytes.{append_known}
use Rattle.bm_connections_cli.proofs.Rows.{same_octets}
use Rattle.bm_connections_cli.proofs.fields.table_csv.Goals as goal

pub returns-in-Ok : goal.returns-in-Ok
returns-in-Ok c =
    let from = c.from_writer-csv.ensures in
    let empty = ap₂ (λ w b. append_known (Some w.items) b) from.wtr from.empty
    ∙ ap (λ l. append_known (Some l) []) c.new.ensures.items in
    let named = c.in_ok-write_header.ensures []
    (record { setup = from.cfg; fields = from.fields; blank = from.wrote; text = empty }) in
    let all = c.in_ok-write_connections.ensures _ named in
    c.in-Ok.ensures.ok ∙ same_octets _ _ all.text
