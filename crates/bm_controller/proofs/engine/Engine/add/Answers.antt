use Rattle.std.proofs.Common.{◌≡◌, [], Some, None, false, refl, ap, sym, ◌∙◌, subst}
use Rattle.std.proofs.lemmas.Result.{err_from_is_err_and}
use Rattle.std.specs.List.{All}
use Rattle.bm_controller.proofs.Answered as by
use Rattle.bm_controller.proofs.MemberFacts.{servers-with}
use Rattle.bm_controller.proofs.RackFacts.{all-with, each-with}
use Rattle.bm_controller.proofs.engine.Engine.add.Goals as goal
use Rattle.bm_controller.specs.Commands as commands
use Rattle.bm_controller.specs.Commands.Command.{AddServer, DrainServer, WeighServer}
use Rattle.bm_controller.specs.Controlled as controlled
use Rattle.bm_controller.specs.Controlled.{Controlled}
use Rattle.bm_controller.specs.declared.members.Member.{Member}
use Rattle.bm_controller.specs.declared.refusal.RackRefusal.TheVariants.{Base}
use Rattle.bm_controller.specs.Inside.Kinds.{HasRack, HasWeight}
use Rattle.bm_controller.specs.Membership as membership
use Rattle.bm_controller.specs.Racks.{EachRackHasMember}
use Rattle.bm_quota.specs.declared.refusal.Refusal.TheVariants.{KnownServer}
use Rattle.bm_table.specs.declared.plan.Kind.TheVariants.{Add}
use Rattle.bm_table.specs.Tables.{is_among}

pub rebalanced-requires-clause-servers : goal.rebalanced-requires-clause-servers
rebalanced-requires-clause-servers c =
    let m : Member = record { server = c.args.s; weight = c.args.weight; rack = c.args.rack }
    in let members = c.in_ok-members.ensures ∙ ap (controlled.with_member m) c.as_slice.ensures.value
    in subst (λ (x : Controlled). controlled.servers_of c.in_ok-members.members.items
    ≡ membership.with_server c.args.s (membership.active_now x.plan)) c.self.view_is
    (ap controlled.servers_of members ∙ servers-with m c.self.inside.members.items
    ∙ ap (membership.with_server c.args.s) c.self.invariant.active)

pub rebalanced-requires-clause-weights : goal.rebalanced-requires-clause-weights
rebalanced-requires-clause-weights c =
    let m : Member = record { server = c.args.s; weight = c.args.weight; rack = c.args.rack }
    in let members = c.in_ok-members.ensures ∙ ap (controlled.with_member m) c.as_slice.ensures.value
    in subst (All HasWeight) (sym members)
    (all-with HasWeight m c.self.inside.members.items c.requires.weight c.self.invariant.weights)

pub rebalanced-requires-clause-racks : goal.rebalanced-requires-clause-racks
rebalanced-requires-clause-racks c =
    let m : Member = record { server = c.args.s; weight = c.args.weight; rack = c.args.rack }
    in let members = c.in_ok-members.ensures ∙ ap (controlled.with_member m) c.as_slice.ensures.value
    in let below = rw (← c.self.view_is) at c.requires.rack
    in subst (λ (x : Controlled). All (HasRack x.racks) c.in_ok-members.members.items) c.self.view_is
    (subst (All (HasRack c.self.inside.racks)) (sym members)
    (all-with (HasRack c.self.inside.racks) m c.self.inside.members.items below c.self.invariant.racks))

pub rebalanced-requires-clause-each : goal.rebalanced-requires-clause-each
rebalanced-requires-clause-each c =
    let m : Member = record { server = c.args.s; weight = c.args.weight; rack = c.args.rack }
    in let members = c.in_ok-members.ensures ∙ ap (controlled.with_member m) c.as_slice.ensures.value
    in let unknown : membership.knows c.self.inside.plan c.args.s ≡ false =
    rw (← c.self.view_is) at (sym c.knows.ensures ∙ c.if-knows.false)
    in let apart : is_among (controlled.servers_of c.self.inside.members.items) c.args.s ≡ false =
    by.unknown_apart c.self.inside.plan c.self.invariant.membership c.args.s
    (controlled.servers_of c.self.inside.members.items) c.self.invariant.active unknown
    in subst (λ (x : Controlled). EachRackHasMember x.racks c.in_ok-members.members.items) c.self.view_is
    (subst (EachRackHasMember c.self.inside.racks) (sym members)
    (each-with c.self.inside.racks m c.self.inside.members.items apart c.self.invariant.each))

pub returns-in_err-rebalanced-clause-refused : goal.returns-in_err-rebalanced-clause-refused
returns-in_err-rebalanced-clause-refused c =
    let m : Member = record { server = c.args.s; weight = c.args.weight; rack = c.args.rack }
    in let members = c.in_ok-members.ensures ∙ ap (controlled.with_member m) c.as_slice.ensures.value
    in let are =
    members
    ∙ ap (λ (x : Controlled). commands.members_after (AddServer c.args.s c.args.weight c.args.rack) x.members)
    c.self.view_is
    in let fit : commands.first_refusal (commands.unfit c.args.self.now
    (AddServer c.args.s c.args.weight c.args.rack)) ≡ None
    = by.when-false (membership.knows c.args.self.now.plan c.args.s) (Base KnownServer) []
    (sym c.knows.ensures ∙ c.if-knows.false)
    in let is =
    err_from_is_err_and c.from_residual-in_err-rebalanced.result c.from_residual-in_err-rebalanced.ensures.1
    in rw (is.1, is.2) (λ other.
    by.answered c.args.self.now c.args.at (AddServer c.args.s c.args.weight c.args.rack) (Add c.args.s) c.in_ok-members.members.items
    (Some c.in_err-rebalanced.field-0.0) fit are refl (c.in_err-rebalanced.ensures.refused other))

pub returns-clause-accepted : goal.returns-clause-accepted
returns-clause-accepted c =
    let m : Member = record { server = c.args.s; weight = c.args.weight; rack = c.args.rack }
    in let members = c.in_ok-members.ensures ∙ ap (controlled.with_member m) c.as_slice.ensures.value
    in let are =
    members
    ∙ ap (λ (x : Controlled). commands.members_after (AddServer c.args.s c.args.weight c.args.rack) x.members)
    c.self.view_is
    in let fit : commands.first_refusal (commands.unfit c.args.self.now
    (AddServer c.args.s c.args.weight c.args.rack)) ≡ None
    = by.when-false (membership.knows c.args.self.now.plan c.args.s) (Base KnownServer) []
    (sym c.knows.ensures ∙ c.if-knows.false)
    in by.answered c.args.self.now c.args.at (AddServer c.args.s c.args.weight c.args.rack) (Add c.args.s) c.in_ok-members.members.items None fit
    are refl c.in_ok-rebalanced.ensures.accepted

pub returns-clause-ok : goal.returns-clause-ok
returns-clause-ok c =
    let m : Member = record { server = c.args.s; weight = c.args.weight; rack = c.args.rack }
    in let members = c.in_ok-members.ensures ∙ ap (controlled.with_member m) c.as_slice.ensures.value
    in let are =
    members
    ∙ ap (λ (x : Controlled). commands.members_after (AddServer c.args.s c.args.weight c.args.rack) x.members)
    c.self.view_is
    in c.in_ok-rebalanced.ensures.ok
    ∙ by.made c.args.self.now c.args.at (AddServer c.args.s c.args.weight c.args.rack) (Add c.args.s) c.in_ok-members.members.items are refl

pub returns-clause-rebalanced : goal.returns-clause-rebalanced
returns-clause-rebalanced c =
    let m : Member = record { server = c.args.s; weight = c.args.weight; rack = c.args.rack }
    in let members = c.in_ok-members.ensures ∙ ap (controlled.with_member m) c.as_slice.ensures.value
    in let are =
    members
    ∙ ap (λ (x : Controlled). commands.members_after (AddServer c.args.s c.args.weight c.args.rack) x.members)
    c.self.view_is
    in by.reached c.args.self.now _ c.args.at (AddServer c.args.s c.args.weight c.args.rack) (Add c.args.s) c.in_ok-members.members.items
    c.in_ok-rebalanced.ensures.ok are refl c.in_ok-rebalanced.ensures.rebalanced
