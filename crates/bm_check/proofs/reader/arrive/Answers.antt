use Rattle.std.proofs.Common.{◌≡◌, ◌∷◌, ◌++◌, ap, rules, ◌∙◌}
use Rattle.std.specs.Prelude.{decimal}
use Rattle.bm_trace.specs.Inside.Reading.{hop_in}
use Rattle.bm_check.specs.Inside.Reading.{text_of}
use Rattle.bm_trace.proofs.Decoding.{hop_back, hop_are}
use Rattle.bm_check.proofs.Texts.{number_word}
use Rattle.bm_trace.specs.Words.{because_words, hop_word, verdict_words}
use Rattle.bm_check.proofs.reader.arrive.Goals as goal

pub returns-in_err-verdict : goal.returns-in_err-verdict
returns-in_err-verdict c k hop s v cause hk hs hv is =
    let first = c.cut.ensures (decimal k) (hop_word hop ∷ decimal s ∷ (verdict_words v ++ because_words cause))
    (number_word k) is
    in let second = c.cut-2.ensures (hop_word hop) (decimal s ∷ (verdict_words v ++ because_words cause))
    (hop_are hop) first.1
    in let third = c.cut-3.ensures (decimal s) (verdict_words v ++ because_words cause) (number_word s) second.1
    in let fourth = c.verdict.ensures v (because_words cause) hv third.1
    in absurd (search rules)

pub returns-in_err-number_32 : goal.returns-in_err-number_32
returns-in_err-number_32 c k hop s v cause hk hs hv is =
    let first = c.cut.ensures (decimal k) (hop_word hop ∷ decimal s ∷ (verdict_words v ++ because_words cause))
    (number_word k) is
    in let second = c.cut-2.ensures (hop_word hop) (decimal s ∷ (verdict_words v ++ because_words cause))
    (hop_are hop) first.1
    in let third = c.cut-3.ensures (decimal s) (verdict_words v ++ because_words cause) (number_word s) second.1
    in let fourth = c.verdict.ensures v (because_words cause) hv third.1
    in let read = c.number_32.ensures k hk first.0 in absurd (search rules)

pub returns-in_err-hop_in : goal.returns-in_err-hop_in
returns-in_err-hop_in c k hop s v cause hk hs hv is =
    let first = c.cut.ensures (decimal k) (hop_word hop ∷ decimal s ∷ (verdict_words v ++ because_words cause))
    (number_word k) is
    in let second = c.cut-2.ensures (hop_word hop) (decimal s ∷ (verdict_words v ++ because_words cause))
    (hop_are hop) first.1
    in let third = c.cut-3.ensures (decimal s) (verdict_words v ++ because_words cause) (number_word s) second.1
    in let fourth = c.verdict.ensures v (because_words cause) hv third.1
    in let read = c.hop_in.ensures ∙ ap hop_in second.0 ∙ hop_back hop in absurd (search rules)

pub returns-in_err-number_16 : goal.returns-in_err-number_16
returns-in_err-number_16 c k hop s v cause hk hs hv is =
    let first = c.cut.ensures (decimal k) (hop_word hop ∷ decimal s ∷ (verdict_words v ++ because_words cause))
    (number_word k) is
    in let second = c.cut-2.ensures (hop_word hop) (decimal s ∷ (verdict_words v ++ because_words cause))
    (hop_are hop) first.1
    in let third = c.cut-3.ensures (decimal s) (verdict_words v ++ because_words cause) (number_word s) second.1
    in let fourth = c.verdict.ensures v (because_words cause) hv third.1
    in let read = c.number_16.ensures s hs third.0 in absurd (search rules)

pub returns-in_err-because : goal.returns-in_err-because
returns-in_err-because c k hop s v cause hk hs hv is =
    let first = c.cut.ensures (decimal k) (hop_word hop ∷ decimal s ∷ (verdict_words v ++ because_words cause))
    (number_word k) is
    in let second = c.cut-2.ensures (hop_word hop) (decimal s ∷ (verdict_words v ++ because_words cause))
    (hop_are hop) first.1
    in let third = c.cut-3.ensures (decimal s) (verdict_words v ++ because_words cause) (number_word s) second.1
    in let fourth = c.verdict.ensures v (because_words cause) hv third.1
    in let says : (c.in_ok-verdict.verdict ≡ v) × (c.in_ok-verdict.rest.now ≡ text_of (because_words cause)) = search rules
    in let read = c.because.ensures cause says.1 in absurd (search rules)

pub returns : goal.returns
returns c k hop s v cause hk hs hv is =
    let first = c.cut.ensures (decimal k) (hop_word hop ∷ decimal s ∷ (verdict_words v ++ because_words cause))
    (number_word k) is
    in let second = c.cut-2.ensures (hop_word hop) (decimal s ∷ (verdict_words v ++ because_words cause))
    (hop_are hop) first.1
    in let third = c.cut-3.ensures (decimal s) (verdict_words v ++ because_words cause) (number_word s) second.1
    in let fourth = c.verdict.ensures v (because_words cause) hv third.1
    in let says : (c.in_ok-verdict.verdict ≡ v) × (c.in_ok-verdict.rest.now ≡ text_of (because_words cause)) = search rules
    in let packet = c.number_32.ensures k hk first.0
    in let one_hop = c.hop_in.ensures ∙ ap hop_in second.0 ∙ hop_back hop
    in let server = c.number_16.ensures s hs third.0
    in let one_cause = c.because.ensures cause says.1
    in search rules
