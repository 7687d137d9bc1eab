use Rattle.std.proofs.Common.{◌≡◌, true, List, refl, ap, sym, ◌∙◌, subst}
use Rattle.bm_base.specs.declared.ids.ServerId.{ServerId}
use Rattle.bm_controller.proofs.Answered.{active-from, known-same}
use Rattle.bm_controller.proofs.MemberFacts.{member-is}
use Rattle.bm_controller.proofs.MemberPlans.{active_now-push, shift_of, KeepsMembership-shift}
use Rattle.bm_controller.proofs.engine.Engine.shift.Goals as goal
use Rattle.bm_controller.specs.Controlled as controlled
use Rattle.bm_controller.specs.Membership as membership
use Rattle.bm_table.specs.declared.plan.Kind.TheVariants.{Shift}
use Rattle.bm_table.specs.declared.plan.Move.{Move}
use Rattle.bm_table.specs.Planned.{Planned}
use Rattle.bm_table.specs.Plans.{with_change}
use Rattle.bm_table.specs.Tables.{is_among}

pub invariant_of-self-2 : goal.invariant_of-self-2
invariant_of-self-2 c =
    let plan = c.self.inside.plan
    in let moves = c.of.ensures ∙ c.in_ok-moves.ensures
    in let member : is_among (controlled.servers_of c.self.inside.members.items) c.args.s ≡ true =
    sym (member-is c.args.s c.self.inside.members.items)
    ∙ rw (← c.self.view_is) at (active-from c.args.self.now c.args.s c.in_ok-check_active.ensures)
    in let active = subst (λ (xs : List ServerId). is_among xs c.args.s ≡ true) c.self.invariant.active member
    in let none = rw moves at c.in_ok-push.ensures.accepted
    in let pushed =
    c.in_ok-push.ensures.ok
    ∙ ap (λ (ms : List Move). with_change plan (record { moment = c.args.at; kind = Shift; moves = ms })) moves
    in record {
      membership =
          rw pushed (KeepsMembership-shift plan c.self.invariant.membership c.args.at c.args.bucket c.args.s active none);
      active = c.self.invariant.active
          ∙ sym (ap membership.active_now pushed
          ∙ active_now-push plan (shift_of c.args.at c.args.bucket c.args.s));
      weights = c.self.invariant.weights;
      few = rw pushed c.self.invariant.few;
      racks = c.self.invariant.racks;
      each = c.self.invariant.each;
      numbers = c.self.invariant.numbers;
      known = λ x l.
          c.self.invariant.known x l
          ∙ known-same plan (shift_of c.args.at c.args.bucket c.args.s) x refl
          ∙ ap (λ (p : Planned). membership.knows p x) (sym pushed);
    }
