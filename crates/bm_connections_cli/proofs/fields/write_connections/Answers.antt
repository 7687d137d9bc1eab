use Rattle.std.proofs.Common.{◌++◌, arith, refl, subst, flat_map, take}
use Rattle.std.proofs.lemmas.List.{take_all}
use Rattle.bm_connections_cli.specs.Csv.{connection_record}
use Rattle.bm_connections_cli.specs.Inside.Rows.{HasWritten}
use Rattle.bm_connections.specs.Base.{compared_with}
use Rattle.bm_connections.proofs.Comparing.{compared_lines_more, length_compared}
use Rattle.bm_connections_cli.proofs.fields.write_connections.Goals as goal

pub loop-place-preserved : goal.loop-place-preserved
loop-place-preserved g c =
    let line = connection_record c.args.clock.0 c.args.racks in
    let i = c.loop-place.place in
    let written = flat_map line (take i (compared_with c.args.table.now c.args.wholes.now)) in
    record {
      written = λ octets is.
          subst (λ l. HasWritten g.W.Write.contents c.write_connection.new.csv l)
          (compared_lines_more line c.args.table.now c.args.wholes.now i _ _ octets (octets ++ written) _
          c.loop-place-test.true c.compare_one-compared.ensures refl refl)
          (c.in_ok-write_connection.ensures (octets ++ written) (c.loop-place.invariant.written octets is));
    }

pub returns : goal.returns
returns g c =
    let table = c.args.table.now in
    let wholes = c.args.wholes.now in
    let line = connection_record c.args.clock.0 c.args.racks in
    λ octets is.
    subst (λ l. HasWritten g.W.Write.contents c.loop-place.csv (octets ++ flat_map line l))
    (take_all c.loop-place.place (compared_with table wholes)
    (omega (arith, c.loop-place-test.false, length_compared table wholes)))
    (c.loop-place.invariant.written octets is)
