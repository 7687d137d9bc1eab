use Rattle.std.proofs.Common.{sym, ◌∙◌, rules}
use Rattle.bm_quota.proofs.StepLemmas.{cleared-more, cleared-end}
use Rattle.bm_quota.proofs.rebalance.clear.Goals as goal
use Rattle.bm_quota.specs.Inside.Rooms.{room_in}

pub loop-s-preserved : goal.loop-s-preserved
loop-s-preserved c = record {
  long = search rules;
  are = λ s. cleared-more c.args.servers.now c.loop-s.s-index (record { 0 = 0 }) c.loop-s.rooms c.loop-s-test.true
      (search rules) s ∙ c.loop-s.invariant.are s;
}

pub returns-clause-cleared : goal.returns-clause-cleared
returns-clause-cleared c = λ s.
    sym (cleared-end c.args.servers.now c.loop-s.s-index (room_in c.loop-s.rooms) c.loop-s-test.false s)
    ∙ c.loop-s.invariant.are s
