use Rattle.std.proofs.Common.{◌∷◌, ◌++◌, ◌/◌, ◌%◌, ap, ◌∙◌, arith, subst, sym, append_assoc, []}
use Rattle.std.specs.Prelude.{decimal}
use Rattle.std.specs.Fmt.{HasWritten, styled_decimal}
use Rattle.bm_connections.specs.Times.{last_digits, seconds_text}
use Rattle.bm_connections.proofs.Digits.{low_digits, nine_digits}
use Rattle.bm_connections.proofs.times.SecondsTextDisplay.fmt.Goals as goal

pub returns-clause-writes : goal.returns-clause-writes
unfolding seconds_text
returns-clause-writes g c =
    let ns = c.args.self.now.0 in
    let nine = ap (λ s. styled_decimal s (ns % 1_000_000_000)) c.laid_out.ensures
    ∙ nine_digits (ns % 1_000_000_000) (omega arith) ∙ low_digits ns in
    λ plain ok.
    subst (λ l. HasWritten g.W.Write.write_str_gives c.args.f.now l c.write.new.self)
    (ap (λ l. decimal (ns / 1_000_000_000) ++ 46 ∷ l) nine
    ∙ sym (append_assoc (decimal (ns / 1_000_000_000)) (46 ∷ []) (last_digits 9 ns)))
    (c.write.ensures.writes plain ok)
