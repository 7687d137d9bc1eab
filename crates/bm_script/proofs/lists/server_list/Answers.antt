use Rattle.bm_script.proofs.Fronts.{rising-bad, rising-end, rising-more}
use Rattle.std.proofs.Common.{arith, refl}
use Rattle.bm_script.proofs.lists.server_list.Goals as goal

pub loop-item-preserved : goal.loop-item-preserved
loop-item-preserved c = record {
  so_far = rw c.in_ok-push.ensures.items
      (rising-more c.loop-item.low c.args.items.now c.loop-item.item-index c.item-item.result
      c.loop-item.servers.items _ c.in-Some.n c.loop-item-test.true
      (rw (← c.item-item.is) c.in-Some.ensures.number) c.loop-item.invariant.so_far);
  within = omega (arith, c.in-Some.ensures.within);
}

pub returns : goal.returns
returns c =
    rw (
      rising-end c.loop-item.low c.args.items.now c.loop-item.item-index c.loop-item.servers.items _
          c.loop-item-test.false c.loop-item.invariant.so_far,
      c.of.ensures,
    ) refl

pub returns-in_default : goal.returns-in_default
returns-in_default c = λ _.
    rw (rising-bad c.loop-item.low c.args.items.now c.loop-item.item-index c.item-item.result
    c.loop-item.servers.items _ c.loop-item-test.true (rw (← c.item-item.is) c.in_default.ensures.number)
    c.loop-item.invariant.so_far) refl
