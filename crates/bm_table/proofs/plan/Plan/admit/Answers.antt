use Rattle.std.proofs.Common.{◌≡◌, Option, Some, None, MatchResult, length, ap, sym, ◌∙◌, subst}
use Rattle.bm_table.proofs.KeptLemmas.{at_home, in_table}
use Rattle.bm_table.proofs.PlanLemmas.{refusal-home, refusal-limits}
use Rattle.bm_table.proofs.plan.Plan.admit.Goals as goal
use Rattle.bm_table.specs.declared.plan.PlanFault.{PlanFault}
use Rattle.bm_table.specs.Plans.{first_fault, late_fault, limit_faults, refusal}
use Rattle.bm_table.specs.Views.{planned}

pub first_already_there-requires : goal.first_already_there-requires
first_already_there-requires c =
    let good = rw c.items-moves.ensures at (sym c.first_bad_bucket.ensures ∙ c.in_default.is)
    in rw c.items-moves.ensures (in_table c.self.inside c.self.invariant c.args.change.now.moves good)

pub returns-in-Some-first_already_there : goal.returns-in-Some-first_already_there
returns-in-Some-first_already_there c =
    let good = rw c.items-moves.ensures at (sym c.first_bad_bucket.ensures ∙ c.in_default.is)
    in let home = rw c.items-moves.ensures at (sym c.first_already_there.ensures ∙ c.in-Some-first_already_there.is)
    in let late : late_fault c.args.self.now c.args.change.now.moment ≡ None = c.in_ok-check_moment.ensures
    in let on_time = rw (← c.self.view_is) at late
    in rw (← c.self.view_is) (
    refusal-home (planned c.self.inside) c.args.change.now c.in-Some-first_already_there.bucket on_time good
    (sym (at_home c.self.inside c.self.invariant c.args.change.now.moves good) ∙ home))

pub returns : goal.returns
returns c =
    let good = rw c.items-moves.ensures at (sym c.first_bad_bucket.ensures ∙ c.in_default.is)
    in let home = rw c.items-moves.ensures at (sym c.first_already_there.ensures ∙ c.in_default-first_already_there.is)
    in let late : late_fault c.args.self.now c.args.change.now.moment ≡ None = c.in_ok-check_moment.ensures
    in let on_time = rw (← c.self.view_is) at late
    in let refused : refusal c.args.self.now c.args.change.now
    ≡ first_fault (limit_faults c.args.self.now (length c.args.change.now.moves))
    = rw (← c.self.view_is) (
    refusal-limits (planned c.self.inside) c.args.change.now on_time good
    (sym (at_home c.self.inside c.self.invariant c.args.change.now.moves good) ∙ home))
    in let count = ap (λ n. first_fault (limit_faults c.args.self.now n)) (ap length c.items-moves.ensures)
    in subst (λ (o : Option PlanFault). MatchResult c.check_counts.result (λ _. o ≡ None) (λ fault. o ≡ Some fault))
    (count ∙ sym refused) c.check_counts.ensures
