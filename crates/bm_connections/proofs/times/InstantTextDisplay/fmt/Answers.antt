use Rattle.std.proofs.Common.{ℕ, ap, ◌∙◌, arith, subst, Bool, Option, Some, FitsSigned, to_z-of_z}
use Rattle.std.specs.Int.{w128}
use Rattle.jiff_core.proofs.SignedLemmas.{signed_arith}
use Rattle.std.specs.Fmt.{HasWritten}
use Rattle.bm_connections.proofs.Dates.{printed}
use Rattle.bm_connections.proofs.times.InstantTextDisplay.fmt.Goals as goal

pub returns-clause-writes : goal.returns-clause-writes
returns-clause-writes g c =
    let ns = c.args.self.now.0 in
    let set = c.precision-printer.ensures ∙ ap (λ (o : Bool × ℕ × Option ℕ). (o.0, o.1, Some 9)) c.new.ensures in
    let fits : FitsSigned w128 c.from.result = omega (arith, signed_arith, c.from.ensures) in
    let text = printed c.precision-printer.result ns c.in-Ok.instant c.timestamp_text.result.bytes (omega arith) set
    (c.in-Ok.ensures.value ∙ to_z-of_z fits ∙ c.from.ensures) c.timestamp_text.ensures in
    λ plain ok.
    subst (λ l. HasWritten g.W.Write.write_str_gives c.args.f.now l c.write_str.new.self)
    (c.as_str.ensures.value ∙ text) (c.write_str.ensures.writes plain ok)
