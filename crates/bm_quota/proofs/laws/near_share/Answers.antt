use Rattle.std.proofs.Common.{arith}
use Rattle.bm_quota.proofs.Claims.{some_weight, total-weights}
use Rattle.bm_quota.proofs.NearLemmas.{quota-near}
use Rattle.bm_quota.specs.Rebalancing.{quota_of}
use Rattle.bm_quota.proofs.laws.near_share.Goals as goal

pub returns : goal.returns
returns c = λ s.
    quota-near c.args.buckets (quota_of c.args.active.now c.args.weights.now) c.args.active.now
    (omega (
      arith,
      total-weights c.args.active.now c.args.weights.now c.requires.rising c.requires.count,
      some_weight c.args.weights.now (omega (arith, c.requires.count, c.requires.some)) c.requires.range,
    )) s
