use Rattle.std.proofs.Common.{ap, sym, ◌∙◌}
use Rattle.bm_words.specs.Form.{is_numeral}
use Rattle.bm_words.proofs.Counts.{too_large}
use Rattle.bm_words.proofs.count.count_in.Goals as goal

pub returns-in-Err-clause-count : goal.returns-in-Err-clause-count
returns-in-Err-clause-count c =
    too_large c.args.word.now c.parse.result c.in-Err.field-0
    (sym (c.is_numeral.ensures ∙ ap is_numeral c.as_bytes.ensures.value) ∙ c.if-not-is_numeral.false)
    c.parse.ensures.value.0 c.in-Err.is
