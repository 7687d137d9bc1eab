use Rattle.bm_script.proofs.Parts.{parted-end, parted-more}
use Rattle.std.proofs.Common.{◌∙◌, sym}
use Rattle.std.proofs.lemmas.Bool.{ne_eqb}
use Rattle.bm_script.proofs.endpoint.parted.Goals as goal

pub loop-at-preserved : goal.loop-at-preserved
loop-at-preserved c =
    sym (parted-more c.args.mark c.args.text.now c.loop-at.at 0 c.loop-at-test.true (ne_eqb _ _ c.if-text-at.false))
    ∙ c.loop-at.invariant

pub returns : goal.returns
returns c = sym (parted-end c.args.mark c.args.text.now c.loop-at.at c.loop-at-test.false) ∙ c.loop-at.invariant
