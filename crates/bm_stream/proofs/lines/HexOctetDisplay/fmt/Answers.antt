use Rattle.std.proofs.Common.{◌≡◌, ◌∙◌, ◌-◌, ◌<◌, ◌^◌, ℕ, List, [], Option, Some, false, ap, option_map, arith, subst}
use Rattle.std.specs.Fmt.{DisplaysOnOk, format_spec, padded_integral, styled_digits_output}
use Rattle.bm_stream.specs.Text.{hex_octet}
use Rattle.bm_stream.proofs.Hex.{hex_is}
use Rattle.bm_stream.proofs.lines.HexOctetDisplay.fmt.Goals as goal

pub returns-clause-writes : goal.returns-clause-writes
returns-clause-writes g c = λ plain ok.
    let octet : ℕ = c.args.self.now.0 in
    let small : octet < 256 = omega arith in
    let text : styled_digits_output c.in_radix.result c.laid_out.result ≡ Some (hex_octet octet) =
    ap (λ spec. styled_digits_output c.in_radix.result spec) c.laid_out.ensures
    ∙ ap (λ (o : Option (List ℕ)). option_map (padded_integral (format_spec 32 0 4 2 (2 ^ 64 - 1)) false []) o)
    c.in_radix.ensures
    ∙ ap (λ (t : List ℕ). Some t) (hex_is octet small)
    in
    let written : DisplaysOnOk g.W.Write.write_str_gives c.args.f.now c.write.result (Some (hex_octet octet)) c.write.new.self =
    subst (λ (o : Option (List ℕ)). DisplaysOnOk g.W.Write.write_str_gives c.args.f.now c.write.result o c.write.new.self)
    text c.write.ensures.writes
    in
    written plain ok
