use Rattle.std.proofs.Common.{ap, sym, refl, ◌∙◌}
use Rattle.bm_words.specs.Form.{is_numeral}
use Rattle.bm_connections_words.specs.Words.{seconds_of}
use Rattle.bm_connections_words.proofs.Seconds.{seconds_read}
use Rattle.bm_connections_words.proofs.words.read_seconds.Goals as goal

pub returns-then-not-is_numeral : goal.returns-then-not-is_numeral
unfolding seconds_of
returns-then-not-is_numeral c =
    let no = sym (c.is_numeral.ensures ∙ ap is_numeral c.as_bytes.ensures.value) ∙ c.if-not-is_numeral.true in
    rw no refl

pub returns : goal.returns
returns c =
    let is = sym (c.is_numeral.ensures ∙ ap is_numeral c.as_bytes.ensures.value) ∙ c.if-not-is_numeral.false in
    c.ok.ensures.value ∙ seconds_read c.args.word.now c.parse.result is c.parse.ensures.value.0
