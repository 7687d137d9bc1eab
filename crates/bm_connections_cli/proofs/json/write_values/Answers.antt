use Rattle.std.proofs.Common.{◌∙◌, ◌++◌, ap, arith, flat_map, string_bytes}
use Rattle.std.proofs.lemmas.List.{take_all}
use Rattle.bm_connections.specs.Base.{compared_with}
use Rattle.bm_connections.proofs.Comparing.{compared_lines_more, length_compared}
use Rattle.bm_connections_cli.specs.Json.{json_line}
use Rattle.bm_connections_cli.proofs.json.write_values.Goals as goal

pub loop-place-preserved : goal.loop-place-preserved
loop-place-preserved c = record {
  written = compared_lines_more (json_line c.args.clock.0 c.args.racks) c.args.table.now c.args.wholes.now
      c.loop-place.place _ _ _ _ _ c.loop-place-test.true c.compare_one-compared.ensures c.in_ok-write_value.ensures
      c.loop-place.invariant.written;
}

pub returns : goal.returns
returns c =
    let table = c.args.table.now in
    let wholes = c.args.wholes.now in
    c.loop-place.invariant.written
    ∙ ap (λ l. string_bytes c.args.text.now ++ flat_map (json_line c.args.clock.0 c.args.racks) l)
    (take_all c.loop-place.place (compared_with table wholes)
    (omega (arith, c.loop-place-test.false, length_compared table wholes)))
