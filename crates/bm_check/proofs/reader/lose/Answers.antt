use Rattle.std.proofs.Common.{◌∷◌, [], ap, rules, ◌∙◌}
use Rattle.bm_trace.specs.Inside.Reading.{hop_in}
use Rattle.bm_trace.proofs.Decoding.{hop_back, hop_are}
use Rattle.bm_check.proofs.Texts.{number_word}
use Rattle.bm_trace.specs.Words.{hop_word}
use Rattle.std.specs.Prelude.{decimal}
use Rattle.bm_check.proofs.reader.lose.Goals as goal

pub returns-in_err-number_32 : goal.returns-in_err-number_32
returns-in_err-number_32 c k hop small is =
    let first = c.cut.ensures (decimal k) (hop_word hop ∷ []) (number_word k) is
    in let read = c.number_32.ensures k small first.0 in absurd (search rules)

pub returns-in_err-hop_in : goal.returns-in_err-hop_in
returns-in_err-hop_in c k hop small is =
    let first = c.cut.ensures (decimal k) (hop_word hop ∷ []) (number_word k) is
    in let second = c.cut-2.ensures (hop_word hop) [] (hop_are hop) first.1
    in let read = c.hop_in.ensures ∙ ap hop_in second.0 ∙ hop_back hop in absurd (search rules)

pub returns : goal.returns
returns c k hop small is =
    let first = c.cut.ensures (decimal k) (hop_word hop ∷ []) (number_word k) is
    in let second = c.cut-2.ensures (hop_word hop) [] (hop_are hop) first.1
    in let packet = c.number_32.ensures k small first.0
    in let read = c.hop_in.ensures ∙ ap hop_in second.0 ∙ hop_back hop
    in search rules
