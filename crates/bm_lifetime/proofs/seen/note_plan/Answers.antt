use Rattle.std.proofs.Common.{◌≡◌, ℕ, suc, ◌-◌, drop, inl, inr, length, sym, ◌∙◌, subst, arith}
use Rattle.std.proofs.lemmas.Option.{none-some, slice_get_cases}
use Rattle.bm_lifetime.specs.Inside.Seen.{IsSeen}
use Rattle.bm_lifetime.proofs.seen.note_plan.Goals as goal
use Rattle.bm_lifetime.proofs.Seeing.{noted, skipped}

pub loop-left-preserved-then-may_precede : goal.loop-left-preserved-then-may_precede
loop-left-preserved-then-may_precede c =
    let one : suc (c.loop-left.left - 1) ≡ c.loop-left.left = omega (arith, c.loop-left-test.true)
    in let old =
    subst
    (λ (n : ℕ). IsSeen c.args.lag (length c.args.seen.now) (suc n) (drop n c.args.plan.now.changes)
    c.loop-left.seen) (sym one) c.loop-left.invariant.noted
    in record {
      known = omega (arith, c.loop-left.invariant.known);
      noted =
          noted c.args.lag (length c.args.seen.now) (c.loop-left.left - 1) c.args.plan.now
          c.in-Some.change.now c.loop-left.seen c.note_moves.new.seen c.versions-left.ensures.kept
          (sym c.in-Some.ensures) (sym c.may_precede.ensures ∙ c.if-may_precede.true)
          (rw (c.items.ensures, sym one) at c.note_moves.ensures) old;
    }

pub loop-left-preserved-else-may_precede : goal.loop-left-preserved-else-may_precede
loop-left-preserved-else-may_precede c =
    let one : suc (c.loop-left.left - 1) ≡ c.loop-left.left = omega (arith, c.loop-left-test.true)
    in let old =
    subst
    (λ (n : ℕ). IsSeen c.args.lag (length c.args.seen.now) (suc n) (drop n c.args.plan.now.changes)
    c.loop-left.seen) (sym one) c.loop-left.invariant.noted
    in record {
      known = omega (arith, c.loop-left.invariant.known);
      noted =
          skipped c.args.lag (length c.args.seen.now) (c.loop-left.left - 1) c.args.plan.now
          c.in-Some.change.now c.loop-left.seen (sym c.in-Some.ensures)
          (sym c.may_precede.ensures ∙ c.if-may_precede.false) old;
    }

pub loop-left-preserved : goal.loop-left-preserved
loop-left-preserved c =
    let none = c.in_default.ensures
    in elim (slice_get_cases c.args.plan.now.changes (c.loop-left.left - 1)).1 [
      | inl there ↦ absurd (none-some there.0 (none ∙ there.2))
      | inr beyond ↦ absurd (let h = beyond.0 in omega (arith, c.loop-left-test.true, c.loop-left.invariant.known))
    ]
