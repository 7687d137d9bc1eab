use Rattle.std.proofs.Common.{ap, sym, ◌∙◌, subst, rules}
use Rattle.std.specs.List.{All}
use Rattle.bm_controller.proofs.MemberFacts.{racks-opening, servers-opening, weights-opening}
use Rattle.bm_controller.proofs.engine.Engine.new.Goals as goal
use Rattle.bm_controller.specs.Controlled as controlled
use Rattle.bm_controller.specs.Inside.Kinds.{HasRack, HasWeight}
use Rattle.bm_controller.specs.Membership as membership
use Rattle.bm_controller.specs.Racks.{EachRackHasMember}

pub invariant_of-result : goal.invariant_of-result
invariant_of-result c = record {
  membership = search rules;
  active = ap controlled.servers_of c.in_ok-of.ensures
      ∙ servers-opening c.args.servers.now c.args.weights.now c.args.rack_of_each.now c.requires.count c.requires.places
      ∙ sym (ap membership.active_now c.in_ok-new.ensures);
  weights = subst (All HasWeight) (sym c.in_ok-of.ensures)
      (weights-opening c.args.servers.now c.args.weights.now c.args.rack_of_each.now c.requires.range);
  few = search rules;
  racks = subst (All (HasRack c.args.racks)) (sym c.in_ok-of.ensures)
      (racks-opening c.args.racks c.args.servers.now c.args.weights.now c.args.rack_of_each.now c.requires.below);
  each = subst (EachRackHasMember c.args.racks) (sym c.in_ok-of.ensures) c.requires.each;
  numbers = search rules;
  known = search rules;
}
