use Rattle.std.proofs.Common.{◌∷◌, [], None, Some, ap, rules, refl, ◌∙◌}
use Rattle.std.specs.Prelude.{codes}
use Rattle.bm_trace.specs.Inside.Reading.{cause_in}
use Rattle.bm_trace.proofs.Decoding.{cause_back, cause_are}
use Rattle.bm_trace.specs.Words.{cause_word}
use Rattle.bm_check.proofs.verdicts.because.Goals as goal

pub returns-in_err-cause_in : goal.returns-in_err-cause_in
returns-in_err-cause_in c None is = absurd (search rules)
returns-in_err-cause_in c (Some cause) is =
    let first = c.cut.ensures (codes "because") (cause_word cause ∷ []) refl is
    in let second = c.cut-2.ensures (cause_word cause) [] (cause_are cause) first.1
    in let read = c.cause_in.ensures ∙ ap cause_in second.0 ∙ cause_back cause in absurd (search rules)

pub returns : goal.returns
returns c None is = absurd (search rules)
returns c (Some cause) is =
    let first = c.cut.ensures (codes "because") (cause_word cause ∷ []) refl is
    in let second = c.cut-2.ensures (cause_word cause) [] (cause_are cause) first.1
    in let read = c.cause_in.ensures ∙ ap cause_in second.0 ∙ cause_back cause in search rules
