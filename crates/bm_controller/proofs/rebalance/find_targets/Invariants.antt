use Rattle.std.proofs.Common.{◌≡◌, ℕ, length, slice_index, slice_index_or}
use Rattle.bm_base.specs.declared.ids.ServerId.{ServerId}
use Rattle.bm_controller.proofs.RackParts.{target_below}
use Rattle.bm_controller.proofs.rebalance.find_targets.Given as goal
use Rattle.bm_controller.specs.Inside.Targets.{target_in}

abbrev pub invariant-loop-rack : goal.invariant-loop-rack
invariant-loop-rack l = record {
  long : length l.rooms ≡ length l.fn.rooms;
  zero : (s : ServerId) → slice_index l.rooms s.0 ≡ 0;
  count : length l.targets ≡ length l.owners;
  moved : (b : ℕ) → target_in l.targets b
      ≡ target_below (λ x. slice_index_or l.owners x (record { 0 = 0 })) (length l.owners) l.racks l.members l.rack b;
}
