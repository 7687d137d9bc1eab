use Rattle.std.proofs.Common.{sym, ◌∙◌, rules, arith}
use Rattle.bm_controller.proofs.SetTargets.{with_targets-more, with_targets-end}
use Rattle.bm_controller.proofs.rebalance.set_targets.Goals as goal

pub loop-m-preserved : goal.loop-m-preserved
loop-m-preserved c = record {
  long = search rules;
  are = λ b.
      with_targets-more c.args.racks c.args.rack c.args.moves.now c.loop-m.m-index (record { bucket = 0; to = record { 0 = 0 } })
      c.loop-m.targets c.loop-m-test.true
      (let place = c.requires.places c.loop-m.m-index (record { bucket = 0; to = record { 0 = 0 } }) c.loop-m-test.true
      in omega (arith, place, c.loop-m.invariant.long)) b
      ∙ c.loop-m.invariant.are b;
}

pub returns-clause-moved : goal.returns-clause-moved
returns-clause-moved c = λ b.
    sym (with_targets-end c.args.racks c.args.rack c.args.moves.now c.loop-m.m-index c.loop-m.targets c.loop-m-test.false b)
    ∙ c.loop-m.invariant.are b
