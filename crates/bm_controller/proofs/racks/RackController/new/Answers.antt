use Rattle.std.proofs.Common.{◌<◌, ℕ, List, [], length, map, get_or, ap, sym, ◌∙◌, subst, arith}
use Rattle.std.proofs.lemmas.List.{length-map}
use Rattle.std.proofs.lemmas.List.Elements.{All-map}
use Rattle.std.specs.List.{All}
use Rattle.bm_controller.proofs.RackFacts.{some-servers}
use Rattle.bm_controller.proofs.Racked.{racked_opening}
use Rattle.bm_controller.proofs.racks.RackController.new.Goals as goal
use Rattle.bm_controller.specs.Controlled.{members_of, Controlled}
use Rattle.bm_controller.specs.Racks.{EachRackHasMember, IsRacked}

pub new-requires-clause-servers : goal.new-requires-clause-servers
new-requires-clause-servers g c =
    some-servers 0 c.args.servers.now c.args.weights.now (map c.requires.rule.rack c.args.servers.now)
    (c.requires.each c.requires.rule 0 (omega (arith, c.requires.rule.count)))

pub new-requires-clause-places : goal.new-requires-clause-places
new-requires-clause-places g c =
    ap length (c.as_slice.ensures.value ∙ c.in_ok-racks.ensures c.requires.rule)
    ∙ length-map c.args.servers.now c.requires.rule.rack

pub new-requires-clause-below : goal.new-requires-clause-below
new-requires-clause-below g c =
    subst (All (λ rack. rack < c.args.policy.racks))
    (sym (c.as_slice.ensures.value ∙ c.in_ok-racks.ensures c.requires.rule))
    (All-map (λ rack. rack < c.args.policy.racks) c.requires.rule.rack c.args.servers.now
    (λ k d h. c.requires.rule.below (get_or c.args.servers.now k d) (c.requires.numbers k d h)))

pub new-requires-clause-each : goal.new-requires-clause-each
new-requires-clause-each g c =
    subst (λ (racks : List ℕ). EachRackHasMember c.args.policy.racks
    (members_of c.args.servers.now c.args.weights.now racks))
    (sym (c.as_slice.ensures.value ∙ c.in_ok-racks.ensures c.requires.rule))
    (c.requires.each c.requires.rule)

pub returns-clause-opening : goal.returns-clause-opening
returns-clause-opening g c = λ p.
    c.in_ok-engine.ensures
    ∙ ap {B = Controlled} (λ (racks : List ℕ). record {
      plan = record { buckets = c.args.buckets; servers = c.args.servers.now; changes = [] };
      racks = c.args.policy.racks;
      members = members_of c.args.servers.now c.args.weights.now racks;
    }) (c.as_slice.ensures.value ∙ c.in_ok-racks.ensures p)

pub returns-clause-racked : goal.returns-clause-racked
returns-clause-racked g c = λ p.
    subst (λ (x : Controlled). IsRacked p.rack x) (sym (returns-clause-opening g c p))
    (racked_opening p.rack c.args.buckets c.args.policy.racks c.args.servers.now c.args.weights.now c.requires.count)
