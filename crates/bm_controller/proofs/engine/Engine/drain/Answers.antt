use Rattle.std.proofs.Common.{◌≡◌, ◌<◌, List, Some, None, true, length, refl, ap, sym, ◌∙◌, subst}
use Rattle.std.proofs.lemmas.Result.{err_from_is_err_and}
use Rattle.std.specs.List.{All}
use Rattle.bm_base.specs.declared.ids.ServerId.{ServerId}
use Rattle.bm_controller.proofs.Answered as by
use Rattle.bm_controller.proofs.MemberFacts.{member-is, servers-without}
use Rattle.bm_controller.proofs.RackFacts.{all-without, each-without}
use Rattle.bm_controller.proofs.engine.Engine.drain.Goals as goal
use Rattle.bm_controller.specs.Commands as commands
use Rattle.bm_controller.specs.Commands.Command.{AddServer, DrainServer, WeighServer}
use Rattle.bm_controller.specs.Controlled as controlled
use Rattle.bm_controller.specs.Controlled.{Controlled}
use Rattle.bm_controller.specs.Inside.Kinds.{HasRack, HasWeight}
use Rattle.bm_controller.specs.Membership as membership
use Rattle.bm_controller.specs.Racks.{EachRackHasMember}
use Rattle.bm_table.specs.declared.plan.Kind.TheVariants.{Drain}
use Rattle.bm_table.specs.Tables.{is_among}

pub rebalanced-requires-clause-kind : goal.rebalanced-requires-clause-kind
rebalanced-requires-clause-kind c =
    let member : is_among (controlled.servers_of c.self.inside.members.items) c.args.s ≡ true =
    sym (member-is c.args.s c.self.inside.members.items)
    ∙ rw (← c.self.view_is) at (by.active-from c.args.self.now c.args.s c.in_ok-check_active.ensures)
    in let active = subst (λ (xs : List ServerId). is_among xs c.args.s ≡ true) c.self.invariant.active member
    in let others = rw (← c.self.view_is) at (by.others-from c.args.self.now c.args.s c.in_ok-check_others.ensures)
    in let many : 1 < length (membership.active_now c.self.inside.plan) =
    by.many-active (membership.active_now c.self.inside.plan) c.self.inside.members.items c.self.invariant.active others.0
    in subst (λ (x : Controlled). (membership.is_active x.plan c.args.s ≡ true)
    × (1 < length (membership.active_now x.plan))) c.self.view_is (active, many)

pub rebalanced-requires-clause-servers : goal.rebalanced-requires-clause-servers
rebalanced-requires-clause-servers c =
    let members = c.in_ok-members.ensures ∙ ap (controlled.without_member c.args.s) c.as_slice.ensures.value
    in subst (λ (x : Controlled). controlled.servers_of c.in_ok-members.members.items
    ≡ membership.without_server c.args.s (membership.active_now x.plan)) c.self.view_is
    (ap controlled.servers_of members ∙ servers-without c.args.s c.self.inside.members.items
    ∙ ap (membership.without_server c.args.s) c.self.invariant.active)

pub rebalanced-requires-clause-weights : goal.rebalanced-requires-clause-weights
rebalanced-requires-clause-weights c =
    let members = c.in_ok-members.ensures ∙ ap (controlled.without_member c.args.s) c.as_slice.ensures.value
    in subst (All HasWeight) (sym members)
    (all-without HasWeight c.args.s c.self.inside.members.items c.self.invariant.weights)

pub rebalanced-requires-clause-racks : goal.rebalanced-requires-clause-racks
rebalanced-requires-clause-racks c =
    let members = c.in_ok-members.ensures ∙ ap (controlled.without_member c.args.s) c.as_slice.ensures.value
    in subst (λ (x : Controlled). All (HasRack x.racks) c.in_ok-members.members.items) c.self.view_is
    (subst (All (HasRack c.self.inside.racks)) (sym members)
    (all-without (HasRack c.self.inside.racks) c.args.s c.self.inside.members.items c.self.invariant.racks))

pub rebalanced-requires-clause-each : goal.rebalanced-requires-clause-each
rebalanced-requires-clause-each c =
    let members = c.in_ok-members.ensures ∙ ap (controlled.without_member c.args.s) c.as_slice.ensures.value
    in let others = rw (← c.self.view_is) at (by.others-from c.args.self.now c.args.s c.in_ok-check_others.ensures)
    in let rise = by.rising-members (membership.active_now c.self.inside.plan) c.self.inside.members.items
    c.self.invariant.active c.self.invariant.membership.rising
    in subst (λ (x : Controlled). EachRackHasMember x.racks c.in_ok-members.members.items) c.self.view_is
    (subst (EachRackHasMember c.self.inside.racks) (sym members)
    (each-without c.self.inside.racks c.args.s c.self.inside.members.items rise others.1 c.self.invariant.each))

pub returns-in_err-rebalanced-clause-refused : goal.returns-in_err-rebalanced-clause-refused
returns-in_err-rebalanced-clause-refused c =
    let members = c.in_ok-members.ensures ∙ ap (controlled.without_member c.args.s) c.as_slice.ensures.value
    in let are =
    members ∙ ap (λ (x : Controlled). commands.members_after (DrainServer c.args.s) x.members) c.self.view_is
    in let fit : commands.first_refusal (commands.unfit c.args.self.now (DrainServer c.args.s)) ≡ None =
    by.first-none (commands.unless_active c.args.self.now c.args.s) (commands.if_last c.args.self.now c.args.s)
    c.in_ok-check_active.ensures
    ∙ c.in_ok-check_others.ensures
    in let is =
    err_from_is_err_and c.from_residual-in_err-rebalanced.result c.from_residual-in_err-rebalanced.ensures.1
    in rw (is.1, is.2) (λ other.
    by.answered c.args.self.now c.args.at (DrainServer c.args.s) (Drain c.args.s) c.in_ok-members.members.items
    (Some c.in_err-rebalanced.field-0.0) fit are refl (c.in_err-rebalanced.ensures.refused other))

pub returns-clause-accepted : goal.returns-clause-accepted
returns-clause-accepted c =
    let members = c.in_ok-members.ensures ∙ ap (controlled.without_member c.args.s) c.as_slice.ensures.value
    in let are =
    members ∙ ap (λ (x : Controlled). commands.members_after (DrainServer c.args.s) x.members) c.self.view_is
    in let fit : commands.first_refusal (commands.unfit c.args.self.now (DrainServer c.args.s)) ≡ None =
    by.first-none (commands.unless_active c.args.self.now c.args.s) (commands.if_last c.args.self.now c.args.s)
    c.in_ok-check_active.ensures
    ∙ c.in_ok-check_others.ensures
    in by.answered c.args.self.now c.args.at (DrainServer c.args.s) (Drain c.args.s) c.in_ok-members.members.items None fit
    are refl c.in_ok-rebalanced.ensures.accepted

pub returns-clause-ok : goal.returns-clause-ok
returns-clause-ok c =
    let members = c.in_ok-members.ensures ∙ ap (controlled.without_member c.args.s) c.as_slice.ensures.value
    in let are =
    members ∙ ap (λ (x : Controlled). commands.members_after (DrainServer c.args.s) x.members) c.self.view_is
    in c.in_ok-rebalanced.ensures.ok
    ∙ by.made c.args.self.now c.args.at (DrainServer c.args.s) (Drain c.args.s) c.in_ok-members.members.items are refl

pub returns-clause-rebalanced : goal.returns-clause-rebalanced
returns-clause-rebalanced c =
    let members = c.in_ok-members.ensures ∙ ap (controlled.without_member c.args.s) c.as_slice.ensures.value
    in let are =
    members ∙ ap (λ (x : Controlled). commands.members_after (DrainServer c.args.s) x.members) c.self.view_is
    in by.reached c.args.self.now _ c.args.at (DrainServer c.args.s) (Drain c.args.s) c.in_ok-members.members.items
    c.in_ok-rebalanced.ensures.ok are refl c.in_ok-rebalanced.ensures.rebalanced
