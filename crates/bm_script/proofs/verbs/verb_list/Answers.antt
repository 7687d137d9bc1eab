use Rattle.std.proofs.Common.{◌∙◌}
use Rattle.bm_script.proofs.Worded.{verbs-end, verbs-more}
use Rattle.bm_script.proofs.verbs.verb_list.Goals as goal

pub loop-value-preserved : goal.loop-value-preserved
loop-value-preserved c =
    verbs-more c.args.version c.args.tables.now c.loop-value.value-index c.value-item.result c.loop-value.verbs.items
    c.add.new.verbs.items _ _ c.loop-value-test.true (rw (← c.value-item.is) c.verb_in.ensures) c.in_ok-add.ensures
    c.loop-value.invariant

pub returns : goal.returns
returns c =
    c.of.ensures
    ∙ verbs-end c.args.version c.args.tables.now c.loop-value.value-index c.loop-value.verbs.items _
    c.loop-value-test.false c.loop-value.invariant
