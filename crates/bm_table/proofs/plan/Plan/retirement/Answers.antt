use Rattle.std.proofs.Common.{Some, None, sym, ◌∙◌}
use Rattle.bm_table.proofs.KeptLemmas.{NotDrained-kept, drained-kept, least-kept}
use Rattle.bm_table.proofs.plan.Plan.retirement.Goals as goal

pub returns-then-not-any_drains : goal.returns-then-not-any_drains
returns-then-not-any_drains c =
    let within = rw (← c.self.view_is) at c.requires
    in let none = rw c.deref.ensures.value at (sym c.any_drains.ensures ∙ c.if-not-any_drains.true)
    in rw (← c.self.view_is) (NotDrained-kept c.self.inside c.args.published.0 c.args.s within none)

pub returns-in-Some : goal.returns-in-Some
returns-in-Some c =
    let within = rw (← c.self.view_is) at c.requires
    in let drained = rw c.deref.ensures.value at (sym c.any_drains.ensures ∙ c.if-not-any_drains.false)
    in let least = rw (c.deref.ensures.value, c.saturating_sub.ensures) at (sym c.in-Some.is ∙ c.least_left.ensures)
    in let late =
    least-kept c.self.inside c.self.invariant c.args.timeout c.args.published.0 c.args.at.0 c.args.s within
    (Some c.in-Some.bucket) least
    in rw (← c.self.view_is) (drained-kept c.self.inside c.args.published.0 c.args.s within drained, late.0, late.1)

pub returns-in-None : goal.returns-in-None
returns-in-None c =
    let within = rw (← c.self.view_is) at c.requires
    in let drained = rw c.deref.ensures.value at (sym c.any_drains.ensures ∙ c.if-not-any_drains.false)
    in let least = rw (c.deref.ensures.value, c.saturating_sub.ensures) at (sym c.in-None.is ∙ c.least_left.ensures)
    in rw (← c.self.view_is) (
      drained-kept c.self.inside c.args.published.0 c.args.s within drained,
      least-kept c.self.inside c.self.invariant c.args.timeout c.args.published.0 c.args.at.0 c.args.s within None
          least,
    )
