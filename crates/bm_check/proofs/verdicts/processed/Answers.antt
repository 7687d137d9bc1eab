use Rattle.std.proofs.Common.{ap, rules, ◌∙◌}
use Rattle.bm_trace.specs.Inside.Reading.{taken_in}
use Rattle.bm_trace.proofs.Decoding.{taken_back, taken_are}
use Rattle.bm_trace.specs.Words.{taken_word}
use Rattle.bm_check.proofs.verdicts.processed.Goals as goal

pub returns-in_err-taken_in : goal.returns-in_err-taken_in
returns-in_err-taken_in c t ws is =
    let first = c.cut.ensures (taken_word t) ws (taken_are t) is
    in let read = c.taken_in.ensures ∙ ap taken_in first.0 ∙ taken_back t in absurd (search rules)

pub returns : goal.returns
returns c t ws is =
    let first = c.cut.ensures (taken_word t) ws (taken_are t) is
    in let read = c.taken_in.ensures ∙ ap taken_in first.0 ∙ taken_back t in search rules
