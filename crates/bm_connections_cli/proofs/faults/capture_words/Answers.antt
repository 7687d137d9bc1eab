use Rattle.std.proofs.Common.{◌∙◌, ◌++◌, ap, sym, append_assoc}
use Rattle.std.specs.Prelude.{codes, decimal}
use Rattle.std.proofs.lemmas.Result.{IfOk-weaker}
use Rattle.bm_connections_cli.proofs.faults.capture_words.Goals as goal

pub returns-in-BadLength : goal.returns-in-BadLength
returns-in-BadLength c = rw c.in-BadLength.is
    (IfOk-weaker c.format-in-BadLength.result _ _
    (λ s e. e ∙ ap (λ l. codes "record " ++ l)
    (sym (append_assoc (decimal c.in-BadLength.number) (codes ": bad length ") (decimal c.in-BadLength.length))))
    c.format-in-BadLength.ensures.ok)
