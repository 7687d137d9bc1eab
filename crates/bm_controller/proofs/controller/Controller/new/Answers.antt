use Rattle.std.proofs.Common.{◌<◌, List, ℕ, [], length, ap, sym, ◌∙◌, subst}
use Rattle.std.proofs.lemmas.List.{length-replicate}
use Rattle.std.specs.List.{All}
use Rattle.bm_controller.proofs.OneRack.{all-zero, each-one}
use Rattle.bm_controller.proofs.controller.Controller.new.Goals as goal
use Rattle.bm_controller.specs.Controlled.{members_of, Controlled}
use Rattle.bm_controller.specs.Racks.{EachRackHasMember}

pub new-requires-clause-places : goal.new-requires-clause-places
new-requires-clause-places c =
    ap length (c.as_slice.ensures.value ∙ c.in_ok-racks.ensures) ∙ length-replicate (length c.args.servers.now) 0

pub new-requires-clause-below : goal.new-requires-clause-below
new-requires-clause-below c =
    subst (All (λ rack. rack < 1)) (sym (c.as_slice.ensures.value ∙ c.in_ok-racks.ensures))
    (all-zero (length c.args.servers.now))

pub new-requires-clause-each : goal.new-requires-clause-each
new-requires-clause-each c =
    subst (λ (racks : List ℕ). EachRackHasMember 1 (members_of c.args.servers.now c.args.weights.now racks))
    (sym (c.as_slice.ensures.value ∙ c.in_ok-racks.ensures))
    (each-one c.args.servers.now c.args.weights.now c.requires.servers c.requires.count)

pub returns : goal.returns
returns c =
    c.in_ok-new.ensures
    ∙ ap {B = Controlled} (λ (racks : List ℕ). record {
      plan = record { buckets = c.args.buckets; servers = c.args.servers.now; changes = [] };
      racks = 1;
      members = members_of c.args.servers.now c.args.weights.now racks;
    }) (c.as_slice.ensures.value ∙ c.in_ok-racks.ensures)
