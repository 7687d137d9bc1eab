use Rattle.std.proofs.Common.{◌≡◌, List, Bool, Some, None, length, false, get_or, vec_len, refl, ap, sym, ◌∙◌, subst}
use Rattle.std.proofs.Common.{rules}
use Rattle.std.proofs.lemmas.List.{with_items_is}
use Rattle.std.proofs.lemmas.Result.{err_from_is_err_and}
use Rattle.std.specs.Option.{option_map}
use Rattle.bm_controller.proofs.Answered.{are-racks, known-after, length-known_after, limits-change, rebalanced-change}
use Rattle.bm_controller.proofs.Answered.{refused_by_plan, KeepsMembership-change}
use Rattle.bm_controller.proofs.MemberPlans.{active_now-push, base_of, RiseFrom-after}
use Rattle.bm_controller.proofs.engine.Engine.rebalanced.Goals as goal
use Rattle.bm_controller.specs.Commands as commands
use Rattle.bm_controller.specs.Controlled.{servers_of, Controlled}
use Rattle.bm_controller.specs.declared.members.Member.{Member}
use Rattle.bm_controller.specs.Inside.Kinds.{known_after}
use Rattle.bm_controller.specs.Membership as membership
use Rattle.bm_controller.specs.Racks.{EachRackHasMember, IsRebalanced}
use Rattle.bm_table.specs.Planned.{Planned}
use Rattle.bm_table.specs.Plans.{with_change}
use Rattle.bm_table.specs.Settings.{RiseFrom}

pub change_to-requires-clause-rising : goal.change_to-requires-clause-rising
change_to-requires-clause-rising c =
    let servers = rw (← c.self.view_is) at c.requires.servers
    in subst (λ (ms : List Member). RiseFrom 0 (servers_of ms)) (sym c.as_slice.ensures.value)
    (subst (RiseFrom 0) (sym servers) (RiseFrom-after c.self.inside.plan c.self.invariant.membership c.args.kind))

pub change_to-requires-clause-each : goal.change_to-requires-clause-each
change_to-requires-clause-each c =
    let each = rw (← c.self.view_is) at c.requires.each
    in subst (EachRackHasMember c.self.inside.racks) (sym c.as_slice.ensures.value) each

pub returns-in_err-push-clause-refused : goal.returns-in_err-push-clause-refused
returns-in_err-push-clause-refused c =
    let plan = c.self.inside.plan
    in let racks = c.self.inside.racks
    in let servers = rw (← c.self.view_is) at c.requires.servers
    in let each = rw (← c.self.view_is) at c.requires.each
    in let are =
    are-racks plan racks c.args.kind c.args.members.items c.self.invariant.membership c.self.invariant.few servers
    c.requires.weights each
    in let change =
    c.in_ok-change.ensures
    ∙ ap (λ (ms : List Member). commands.change_to plan racks c.args.at c.args.kind ms) c.as_slice.ensures.value
    in let is = err_from_is_err_and c.from_residual-in_err-push.result c.from_residual-in_err-push.ensures.1
    in let refused = rw change at c.in_err-push.ensures.refused
    in rw (is.1, is.2) (λ other.
    subst (λ (x : Controlled). commands.first_refusal (commands.limits x.plan c.args.at
    (length (commands.change_to x.plan x.racks c.args.at c.args.kind c.args.members.items).moves))
    ≡ Some (base_of c.in_err-push.field-0.0)) c.self.view_is
    (limits-change plan racks c.args.at c.args.kind c.args.members.items are
    ∙ refused_by_plan plan (commands.change_to plan racks c.args.at c.args.kind c.args.members.items)
    c.in_err-push.field-0.0 refused other))

pub invariant_of-self-2 : goal.invariant_of-self-2
invariant_of-self-2 c =
    let plan = c.self.inside.plan
    in let racks = c.self.inside.racks
    in let servers = rw (← c.self.view_is) at c.requires.servers
    in let each = rw (← c.self.view_is) at c.requires.each
    in let are =
    are-racks plan racks c.args.kind c.args.members.items c.self.invariant.membership c.self.invariant.few servers
    c.requires.weights each
    in let change =
    c.in_ok-change.ensures
    ∙ ap (λ (ms : List Member). commands.change_to plan racks c.args.at c.args.kind ms) c.as_slice.ensures.value
    in let may = rw (← c.self.view_is) at c.requires.kind
    in let kept = rw (← c.self.view_is) at c.requires.racks
    in let wanted = commands.change_to plan racks c.args.at c.args.kind c.args.members.items
    in let none = rw change at c.in_ok-push.ensures.accepted
    in let pushed = c.in_ok-push.ensures.ok ∙ ap (with_change plan) change
    in let long : length c.self.inside.known.items ≡ vec_len c.self.inside.known = search rules
    in let made_known = c.make_known.ensures ∙ ap (known_after c.args.kind) c.as_mut_slice.ensures.value
    in record {
      membership =
          rw pushed (KeepsMembership-change plan racks c.self.invariant.membership c.args.at c.args.kind
          c.args.members.items may servers are none);
      active = servers ∙ sym (ap membership.active_now pushed ∙ active_now-push plan wanted);
      weights = c.requires.weights;
      few = rw pushed c.self.invariant.few;
      racks = kept;
      each = each;
      numbers = search rules;
      known = λ x l.
          ap (λ (ks : List Bool). get_or ks x.0 false)
          (with_items_is c.self.inside.known c.make_known.new.known
          (ap length made_known ∙ length-known_after c.args.kind c.self.inside.known.items ∙ long) ∙ made_known)
          ∙ known-after c.self.inside.known.items plan wanted c.args.kind refl may (search rules)
          c.self.invariant.known x l
          ∙ ap (λ (p : Planned). membership.knows p x) (sym pushed);
    }

pub returns-clause-ok : goal.returns-clause-ok
returns-clause-ok c =
    let plan = c.self.inside.plan
    in let racks = c.self.inside.racks
    in let change =
    c.in_ok-change.ensures
    ∙ ap (λ (ms : List Member). commands.change_to plan racks c.args.at c.args.kind ms) c.as_slice.ensures.value
    in let pushed = c.in_ok-push.ensures.ok ∙ ap (with_change plan) change
    in subst (λ (x : Controlled). ◌≡◌ {A = Controlled}
    (record { plan = c.push.new.self; racks = racks; members = c.args.members.items })
    (record {
      plan = with_change x.plan (commands.change_to x.plan x.racks c.args.at c.args.kind c.args.members.items);
      racks = x.racks;
      members = c.args.members.items;
    })) c.self.view_is
    (λ i. record { plan = pushed i; racks = racks; members = c.args.members.items })

pub returns-clause-accepted : goal.returns-clause-accepted
returns-clause-accepted c =
    let plan = c.self.inside.plan
    in let racks = c.self.inside.racks
    in let servers = rw (← c.self.view_is) at c.requires.servers
    in let each = rw (← c.self.view_is) at c.requires.each
    in let are =
    are-racks plan racks c.args.kind c.args.members.items c.self.invariant.membership c.self.invariant.few servers
    c.requires.weights each
    in let change =
    c.in_ok-change.ensures
    ∙ ap (λ (ms : List Member). commands.change_to plan racks c.args.at c.args.kind ms) c.as_slice.ensures.value
    in let none = rw change at c.in_ok-push.ensures.accepted
    in subst (λ (x : Controlled). commands.first_refusal (commands.limits x.plan c.args.at
    (length (commands.change_to x.plan x.racks c.args.at c.args.kind c.args.members.items).moves)) ≡ None)
    c.self.view_is
    (limits-change plan racks c.args.at c.args.kind c.args.members.items are ∙ ap (option_map base_of) none)

pub returns-clause-rebalanced : goal.returns-clause-rebalanced
returns-clause-rebalanced c =
    let plan = c.self.inside.plan
    in let racks = c.self.inside.racks
    in let servers = rw (← c.self.view_is) at c.requires.servers
    in let each = rw (← c.self.view_is) at c.requires.each
    in let are =
    are-racks plan racks c.args.kind c.args.members.items c.self.invariant.membership c.self.invariant.few servers
    c.requires.weights each
    in let change =
    c.in_ok-change.ensures
    ∙ ap (λ (ms : List Member). commands.change_to plan racks c.args.at c.args.kind ms) c.as_slice.ensures.value
    in let may = rw (← c.self.view_is) at c.requires.kind
    in let none = rw change at c.in_ok-push.ensures.accepted
    in let reached =
    rebalanced-change plan racks c.args.at c.args.kind c.args.members.items are
    (KeepsMembership-change plan racks c.self.invariant.membership c.args.at c.args.kind c.args.members.items may servers
    are none)
    in subst (IsRebalanced c.args.self.now.plan
    (commands.change_to c.args.self.now.plan c.args.self.now.racks c.args.at c.args.kind c.args.members.items))
    (sym (returns-clause-ok c))
    (subst (λ (x : Controlled). IsRebalanced x.plan
    (commands.change_to x.plan x.racks c.args.at c.args.kind c.args.members.items)
    (record {
      plan = with_change x.plan (commands.change_to x.plan x.racks c.args.at c.args.kind c.args.members.items);
      racks = x.racks;
      members = c.args.members.items;
    })) c.self.view_is reached)
