use Rattle.std.proofs.Common.{◌<◌, ◌+◌, ◌*◌, List, length, get_or, ap, refl, sym, ◌∙◌, subst, rules}
use Rattle.std.specs.List.{All}
use Rattle.bm_controller.proofs.RackParts.{places-rack, rise-rack, target-all, target-more, target-none}
use Rattle.bm_controller.proofs.rebalance.find_targets.Goals as goal
use Rattle.bm_controller.specs.Inside.Targets.{with_targets, target_in}
use Rattle.bm_controller.specs.Racks.{rack_part}
use Rattle.bm_quota.specs.Parts.{rebalancing_of}
use Rattle.bm_table.specs.declared.plan.Move.{Move}

pub loop-rack-init : goal.loop-rack-init
loop-rack-init c = record {
  long = refl;
  zero = c.requires.zero;
  count = c.requires.count;
  moved = λ b. c.requires.none b
      ∙ sym (target-none (λ x. get_or c.args.owners.now x (record { 0 = 0 })) (length c.args.owners.now) c.args.racks
      c.args.members.now b);
}

pub set_targets-requires : goal.set_targets-requires
set_targets-requires c =
    let moves = c.as_slice.ensures.value ∙ c.in_ok-moves.ensures.moves
    in record {
      places = subst (λ (ms : List Move). All (λ m. m.bucket * c.args.racks + c.loop-rack.rack < length c.loop-rack.targets) ms)
          (sym moves)
          (subst (λ k. All (λ (m : Move). m.bucket * c.args.racks + c.loop-rack.rack < k)
          (rebalancing_of (rack_part (λ x. get_or c.args.owners.now x (record { 0 = 0 })) (length c.args.owners.now)
          c.args.racks c.args.members.now c.loop-rack.rack))) (sym c.loop-rack.invariant.count)
          (places-rack (length c.args.owners.now) c.args.racks c.loop-rack.rack 0 c.loop-rack-test.true
          (rebalancing_of (rack_part (λ x. get_or c.args.owners.now x (record { 0 = 0 })) (length c.args.owners.now)
          c.args.racks c.args.members.now c.loop-rack.rack))
          (rise-rack (λ x. get_or c.args.owners.now x (record { 0 = 0 })) (length c.args.owners.now) c.args.racks
          c.args.members.now c.loop-rack.rack)));
    }

pub loop-rack-preserved : goal.loop-rack-preserved
loop-rack-preserved c =
    let moves = c.as_slice.ensures.value ∙ c.in_ok-moves.ensures.moves
    in record {
      long = search rules;
      zero = c.in_ok-moves.ensures.zero;
      count = c.set_targets.ensures.count ∙ c.loop-rack.invariant.count;
      moved = λ b.
          c.set_targets.ensures.moved b
          ∙ ap (λ (ms : List Move). with_targets c.args.racks c.loop-rack.rack ms (target_in c.loop-rack.targets) b) moves
          ∙ target-more (λ x. get_or c.args.owners.now x (record { 0 = 0 })) (length c.args.owners.now) c.args.racks
          c.args.members.now c.loop-rack.rack c.loop-rack-test.true (target_in c.loop-rack.targets)
          c.loop-rack.invariant.moved b;
    }

pub returns : goal.returns
returns c = λ b.
    c.loop-rack.invariant.moved b
    ∙ target-all (λ x. get_or c.args.owners.now x (record { 0 = 0 })) (length c.args.owners.now) c.args.racks
    c.args.members.now c.loop-rack.rack c.requires.few c.loop-rack-test.false b
