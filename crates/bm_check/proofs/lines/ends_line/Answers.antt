use Rattle.std.proofs.Common.{◌∷◌, []}
use Rattle.std.proofs.lemmas.Bool.{eq-eqb, eqb-true}
use Rattle.std.proofs.lemmas.Slice.Eq.{strip_suffix_is}
use Rattle.bm_check.proofs.Lining.{ends_if}
use Rattle.bm_check.proofs.lines.ends_line.Goals as goal

pub returns : goal.returns
returns c =
    ends_if c.args.text.now c.strip_suffix.result c.is_some.result c.is_some.ensures
    (strip_suffix_is (λ a b. (eqb-true a b, eq-eqb a b)) c.args.text.now (10 ∷ []) _ c.strip_suffix.ensures.cases)
