use Rattle.std.proofs.Common.{◌∙◌}
use Rattle.bm_quota.proofs.StepLemmas.{all-cleared, chosen}
use Rattle.bm_quota.proofs.rebalance.moves_in.Goals as goal

pub returns-clause-chosen : goal.returns-clause-chosen
returns-clause-chosen c =
    c.in_ok-moves.ensures
    ∙ chosen c.args.owner.now c.args.active.now c.args.quotas.now c.make_room.new.rooms c.give.new.rooms
    c.as_slice.result.now c.as_slice-2.result.now c.make_room.ensures.rooms c.in_ok-buckets.ensures.left
    (c.as_slice.ensures.value ∙ c.in_ok-buckets.ensures.given)
    (c.as_slice-2.ensures.value ∙ c.in_ok-takers.ensures)

pub returns-clause-zero : goal.returns-clause-zero
returns-clause-zero c = λ s.
    c.clear.ensures.cleared s
    ∙ all-cleared c.args.active.now c.args.quotas.now c.args.owner.now c.make_room.new.rooms c.give.new.rooms
    c.make_room.ensures.rooms c.in_ok-buckets.ensures.left s
