use Rattle.std.proofs.Common.{◌≡◌, Some, None, refl, ap, sym, ◌∙◌, subst}
use Rattle.std.proofs.lemmas.Result.{err_from_is_err_and}
use Rattle.std.specs.List.{All}
use Rattle.bm_controller.proofs.Answered as by
use Rattle.bm_controller.proofs.RackFacts.{all-reweighed, each-reweighed}
use Rattle.bm_controller.proofs.RackFacts.{servers-reweighed}
use Rattle.bm_controller.proofs.engine.Engine.weigh.Goals as goal
use Rattle.bm_controller.specs.Commands as commands
use Rattle.bm_controller.specs.Commands.Command.{AddServer, DrainServer, WeighServer}
use Rattle.bm_controller.specs.Controlled as controlled
use Rattle.bm_controller.specs.Controlled.{Controlled}
use Rattle.bm_controller.specs.Inside.Kinds.{HasRack, HasWeight}
use Rattle.bm_controller.specs.Membership as membership
use Rattle.bm_controller.specs.Racks.{EachRackHasMember}
use Rattle.bm_table.specs.declared.plan.Kind.TheVariants.{Shift}

pub rebalanced-requires-clause-servers : goal.rebalanced-requires-clause-servers
rebalanced-requires-clause-servers c =
    let members =
    c.in_ok-members.ensures ∙ ap (controlled.reweighed c.args.s c.args.weight) c.as_slice.ensures.value
    in subst (λ (x : Controlled). controlled.servers_of c.in_ok-members.members.items
    ≡ membership.active_now x.plan) c.self.view_is
    (ap controlled.servers_of members
    ∙ servers-reweighed c.args.s c.args.weight c.self.inside.members.items ∙ c.self.invariant.active)

pub rebalanced-requires-clause-weights : goal.rebalanced-requires-clause-weights
rebalanced-requires-clause-weights c =
    let members =
    c.in_ok-members.ensures ∙ ap (controlled.reweighed c.args.s c.args.weight) c.as_slice.ensures.value
    in subst (All HasWeight) (sym members)
    (all-reweighed HasWeight c.args.s c.args.weight (λ m weight. c.requires) c.self.inside.members.items
    c.self.invariant.weights)

pub rebalanced-requires-clause-racks : goal.rebalanced-requires-clause-racks
rebalanced-requires-clause-racks c =
    let members =
    c.in_ok-members.ensures ∙ ap (controlled.reweighed c.args.s c.args.weight) c.as_slice.ensures.value
    in subst (λ (x : Controlled). All (HasRack x.racks) c.in_ok-members.members.items) c.self.view_is
    (subst (All (HasRack c.self.inside.racks)) (sym members)
    (all-reweighed (HasRack c.self.inside.racks) c.args.s c.args.weight (λ m below. below)
    c.self.inside.members.items c.self.invariant.racks))

pub rebalanced-requires-clause-each : goal.rebalanced-requires-clause-each
rebalanced-requires-clause-each c =
    let members =
    c.in_ok-members.ensures ∙ ap (controlled.reweighed c.args.s c.args.weight) c.as_slice.ensures.value
    in subst (λ (x : Controlled). EachRackHasMember x.racks c.in_ok-members.members.items) c.self.view_is
    (subst (EachRackHasMember c.self.inside.racks) (sym members)
    (each-reweighed c.self.inside.racks c.args.s c.args.weight c.self.inside.members.items c.self.invariant.each))

pub returns-in_err-rebalanced-clause-refused : goal.returns-in_err-rebalanced-clause-refused
returns-in_err-rebalanced-clause-refused c =
    let members =
    c.in_ok-members.ensures ∙ ap (controlled.reweighed c.args.s c.args.weight) c.as_slice.ensures.value
    in let are =
    members
    ∙ ap (λ (x : Controlled). commands.members_after (WeighServer c.args.s c.args.weight) x.members) c.self.view_is
    in let fit : commands.first_refusal (commands.unfit c.args.self.now (WeighServer c.args.s c.args.weight)) ≡ None =
    c.in_ok-check_active.ensures
    in let is =
    err_from_is_err_and c.from_residual-in_err-rebalanced.result c.from_residual-in_err-rebalanced.ensures.1
    in rw (is.1, is.2) (λ other.
    by.answered c.args.self.now c.args.at (WeighServer c.args.s c.args.weight) Shift c.in_ok-members.members.items
    (Some c.in_err-rebalanced.field-0.0) fit are refl (c.in_err-rebalanced.ensures.refused other))

pub returns-clause-accepted : goal.returns-clause-accepted
returns-clause-accepted c =
    let members =
    c.in_ok-members.ensures ∙ ap (controlled.reweighed c.args.s c.args.weight) c.as_slice.ensures.value
    in let are =
    members
    ∙ ap (λ (x : Controlled). commands.members_after (WeighServer c.args.s c.args.weight) x.members) c.self.view_is
    in let fit : commands.first_refusal (commands.unfit c.args.self.now (WeighServer c.args.s c.args.weight)) ≡ None =
    c.in_ok-check_active.ensures
    in by.answered c.args.self.now c.args.at (WeighServer c.args.s c.args.weight) Shift c.in_ok-members.members.items None fit
    are refl c.in_ok-rebalanced.ensures.accepted

pub returns-clause-ok : goal.returns-clause-ok
returns-clause-ok c =
    let members =
    c.in_ok-members.ensures ∙ ap (controlled.reweighed c.args.s c.args.weight) c.as_slice.ensures.value
    in let are =
    members
    ∙ ap (λ (x : Controlled). commands.members_after (WeighServer c.args.s c.args.weight) x.members) c.self.view_is
    in c.in_ok-rebalanced.ensures.ok
    ∙ by.made c.args.self.now c.args.at (WeighServer c.args.s c.args.weight) Shift c.in_ok-members.members.items are refl

pub returns-clause-rebalanced : goal.returns-clause-rebalanced
returns-clause-rebalanced c =
    let members =
    c.in_ok-members.ensures ∙ ap (controlled.reweighed c.args.s c.args.weight) c.as_slice.ensures.value
    in let are =
    members
    ∙ ap (λ (x : Controlled). commands.members_after (WeighServer c.args.s c.args.weight) x.members) c.self.view_is
    in by.reached c.args.self.now _ c.args.at (WeighServer c.args.s c.args.weight) Shift c.in_ok-members.members.items
    c.in_ok-rebalanced.ensures.ok are refl c.in_ok-rebalanced.ensures.rebalanced
