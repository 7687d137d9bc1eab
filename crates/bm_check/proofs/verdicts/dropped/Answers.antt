use Rattle.std.proofs.Common.{ap, rules, ◌∙◌}
use Rattle.bm_trace.specs.Inside.Reading.{why_in}
use Rattle.bm_trace.proofs.Decoding.{why_back, why_are}
use Rattle.bm_trace.specs.Words.{why_word}
use Rattle.bm_check.proofs.verdicts.dropped.Goals as goal

pub returns-in_err-why_in : goal.returns-in_err-why_in
returns-in_err-why_in c why ws is =
    let first = c.cut.ensures (why_word why) ws (why_are why) is
    in let read = c.why_in.ensures ∙ ap why_in first.0 ∙ why_back why in absurd (search rules)

pub returns : goal.returns
returns c why ws is =
    let first = c.cut.ensures (why_word why) ws (why_are why) is
    in let read = c.why_in.ensures ∙ ap why_in first.0 ∙ why_back why in search rules
