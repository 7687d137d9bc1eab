use Rattle.std.proofs.Common.{◌∷◌, [], ap, rules, ◌∙◌}
use Rattle.std.specs.Prelude.{codes, decimal}
use Rattle.bm_trace.proofs.Decoding.{is_word_endpoint}
use Rattle.bm_trace.specs.Inside.Reading.{same_text}
use Rattle.bm_trace.specs.Words.{endpoint}
use Rattle.bm_check.proofs.Spelling.{closed_back, closed_is_word}
use Rattle.bm_check.proofs.Texts.{number_word}
use Rattle.bm_check.specs.Inside.Reading.{closed_word}
use Rattle.bm_check.proofs.reader.close.Goals as goal

pub returns-in_err-number_16 : goal.returns-in_err-number_16
returns-in_err-number_16 c s f closed hs hf is =
    let first =
    c.cut.ensures (decimal s) (endpoint f.src f.sport ∷ endpoint f.dst f.dport ∷ closed_word closed ∷ [])
    (number_word s) is
    in let second =
    c.cut-2.ensures (endpoint f.src f.sport) (endpoint f.dst f.dport ∷ closed_word closed ∷ [])
    (is_word_endpoint f.src f.sport) first.1
    in let read = c.number_16.ensures s hs first.0 in absurd (search rules)

pub returns-in_err-from : goal.returns-in_err-from
returns-in_err-from c s f closed hs hf is =
    let first =
    c.cut.ensures (decimal s) (endpoint f.src f.sport ∷ endpoint f.dst f.dport ∷ closed_word closed ∷ [])
    (number_word s) is
    in let second =
    c.cut-2.ensures (endpoint f.src f.sport) (endpoint f.dst f.dport ∷ closed_word closed ∷ [])
    (is_word_endpoint f.src f.sport) first.1
    in let read = c.endpoint_in.ensures f.src f.sport hf.0 hf.2 second.0 in absurd (search rules)

pub returns-in_err-to : goal.returns-in_err-to
returns-in_err-to c s f closed hs hf is =
    let first =
    c.cut.ensures (decimal s) (endpoint f.src f.sport ∷ endpoint f.dst f.dport ∷ closed_word closed ∷ [])
    (number_word s) is
    in let second =
    c.cut-2.ensures (endpoint f.src f.sport) (endpoint f.dst f.dport ∷ closed_word closed ∷ [])
    (is_word_endpoint f.src f.sport) first.1
    in let third =
    c.cut-3.ensures (endpoint f.dst f.dport) (closed_word closed ∷ []) (is_word_endpoint f.dst f.dport) second.1
    in let read = c.endpoint_in-2.ensures f.dst f.dport hf.1 hf.3 third.0 in absurd (search rules)

pub returns : goal.returns
returns c s f closed hs hf is =
    let first =
    c.cut.ensures (decimal s) (endpoint f.src f.sport ∷ endpoint f.dst f.dport ∷ closed_word closed ∷ [])
    (number_word s) is
    in let second =
    c.cut-2.ensures (endpoint f.src f.sport) (endpoint f.dst f.dport ∷ closed_word closed ∷ [])
    (is_word_endpoint f.src f.sport) first.1
    in let third =
    c.cut-3.ensures (endpoint f.dst f.dport) (closed_word closed ∷ []) (is_word_endpoint f.dst f.dport) second.1
    in let fourth = c.cut-4.ensures (closed_word closed) [] (closed_is_word closed) third.1
    in let server = c.number_16.ensures s hs first.0
    in let from = c.endpoint_in.ensures f.src f.sport hf.0 hf.2 second.0
    in let to = c.endpoint_in-2.ensures f.dst f.dport hf.1 hf.3 third.0
    in let answer = c.is.ensures ∙ ap (λ w. same_text w (codes "closed")) fourth.0 ∙ closed_back closed
    in search rules
