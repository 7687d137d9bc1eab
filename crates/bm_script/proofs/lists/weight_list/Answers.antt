use Rattle.bm_script.proofs.Fronts.{each-bad, each-end, each-more}
use Rattle.bm_script.specs.Values as values
use Rattle.std.proofs.Common.{refl}
use Rattle.bm_script.proofs.lists.weight_list.Goals as goal

pub loop-item-preserved : goal.loop-item-preserved
loop-item-preserved c =
    rw c.in_ok-push.ensures.items
    (each-more values.weight c.args.items.now c.loop-item.item-index c.item-item.result c.loop-item.weights.items _ _
    c.loop-item-test.true (rw (← c.item-item.is) c.in-Some.ensures.weight) c.loop-item.invariant)

pub returns : goal.returns
returns c =
    rw (
      each-end values.weight c.args.items.now c.loop-item.item-index c.loop-item.weights.items _ c.loop-item-test.false
          c.loop-item.invariant,
      c.of.ensures,
    ) refl

pub returns-in_default : goal.returns-in_default
returns-in_default c = λ _.
    rw (each-bad values.weight c.args.items.now c.loop-item.item-index c.item-item.result c.loop-item.weights.items _
    c.loop-item-test.true (rw (← c.item-item.is) c.in_default.ensures.weight) c.loop-item.invariant) refl
