use Rattle.std.proofs.Common.{rules}
use Rattle.std.specs.Prelude.{decimal}
use Rattle.bm_trace.specs.Report.{words_of}
use Rattle.bm_check.proofs.Texts.{number_word}
use Rattle.bm_check.proofs.reader.guess.Goals as goal

pub returns-in_err-value_of : goal.returns-in_err-value_of
returns-in_err-value_of c e a he hv hb is =
    let first = c.cut.ensures (decimal e.clock.0) (words_of e.what a) (number_word e.clock.0) is
    in let read = c.value_of.ensures e.clock.0 he.0 first.0 in absurd (search rules)

pub returns-in_err-said : goal.returns-in_err-said
returns-in_err-said c e a he hv hb is =
    let first = c.cut.ensures (decimal e.clock.0) (words_of e.what a) (number_word e.clock.0) is
    in let read = c.read_said.ensures e.what a he.1 hv hb first.1 in absurd (search rules)

pub returns : goal.returns
returns c e a he hv hb is =
    let first = c.cut.ensures (decimal e.clock.0) (words_of e.what a) (number_word e.clock.0) is
    in let clock = c.value_of.ensures e.clock.0 he.0 first.0
    in let read = c.read_said.ensures e.what a he.1 hv hb first.1
    in search rules
