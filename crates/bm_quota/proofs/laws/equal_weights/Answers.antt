use Rattle.bm_quota.proofs.WeightLemmas.{quotas-even}
use Rattle.bm_quota.proofs.laws.equal_weights.Goals as goal

pub returns : goal.returns
returns c = λ weights even.
    quotas-even c.args.buckets c.args.weight weights c.args.active.now c.requires.rising c.requires.weight c.requires.some
    even
