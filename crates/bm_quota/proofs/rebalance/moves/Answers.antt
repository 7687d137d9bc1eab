use Rattle.std.proofs.Common.{◌≡◌, ◌≤◌, ◌<◌, ℕ, List, All, Vec, Global, length}
use Rattle.std.proofs.lemmas.Result.{IfOk-weaker}
use Rattle.bm_table.specs.declared.plan.Move.{Move}
use Rattle.bm_quota.proofs.Rebalanced.{rebalancing-reaches, rebalancing-least, length-rebalancing-sum, AreQuotas}
use Rattle.bm_quota.proofs.rebalance.moves.Goals as goal
use Rattle.bm_quota.specs.Rebalancing as rule

pub returns-clause-reach : goal.returns-clause-reach
returns-clause-reach c =
    let are : AreQuotas c.args.owner.now c.args.active.now c.args.quotas.now =
    record { rising = c.requires.rising; count = c.requires.count; total = c.requires.total }
    in IfOk-weaker c.moves_in.result
    (λ (m : Vec Move Global). m.items ≡ rule.rebalancing c.args.owner.now c.args.active.now c.args.quotas.now)
    (λ (m : Vec Move Global). rule.ReachQuotas c.args.owner.now c.args.active.now c.args.quotas.now m.items)
    (λ m h. rw h (rebalancing-reaches c.args.owner.now c.args.active.now c.args.quotas.now are))
    c.moves_in.ensures.chosen

pub returns-clause-surpluses : goal.returns-clause-surpluses
returns-clause-surpluses c =
    let are : AreQuotas c.args.owner.now c.args.active.now c.args.quotas.now =
    record { rising = c.requires.rising; count = c.requires.count; total = c.requires.total }
    in IfOk-weaker c.moves_in.result
    (λ (m : Vec Move Global). m.items ≡ rule.rebalancing c.args.owner.now c.args.active.now c.args.quotas.now)
    (λ (m : Vec Move Global). (n : ℕ) → All (λ s. s.0 < n) c.args.owner.now
    → length m.items ≡ rule.sum_below (rule.surplus c.args.owner.now c.args.active.now c.args.quotas.now) n)
    (λ m h. rw h (length-rebalancing-sum c.args.owner.now c.args.active.now c.args.quotas.now are))
    c.moves_in.ensures.chosen

pub returns-clause-least : goal.returns-clause-least
returns-clause-least c =
    let are : AreQuotas c.args.owner.now c.args.active.now c.args.quotas.now =
    record { rising = c.requires.rising; count = c.requires.count; total = c.requires.total }
    in IfOk-weaker c.moves_in.result
    (λ (m : Vec Move Global). m.items ≡ rule.rebalancing c.args.owner.now c.args.active.now c.args.quotas.now)
    (λ (m : Vec Move Global). (others : List Move)
    → rule.ReachQuotas c.args.owner.now c.args.active.now c.args.quotas.now others → length m.items ≤ length others)
    (λ m h. rw h (rebalancing-least c.args.owner.now c.args.active.now c.args.quotas.now are))
    c.moves_in.ensures.chosen
