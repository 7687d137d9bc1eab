use Rattle.std.proofs.Common.{◌≡◌, slice_index_or}
use Rattle.bm_controller.proofs.rebalance.owners_of_rack.Given as goal
use Rattle.bm_quota.specs.Parts as parts

abbrev pub invariant-loop-j : goal.invariant-loop-j
invariant-loop-j l = l.owned.items
    ≡ parts.owners_of_part (λ b. slice_index_or l.owners b (record { 0 = 0 })) l.racks l.rack l.j
