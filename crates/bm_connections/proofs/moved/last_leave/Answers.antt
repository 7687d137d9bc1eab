use Rattle.std.proofs.Common.{◌≡◌, ◌∙◌, Some, None, true, false, arith, refl, sym}
use Rattle.bm_connections.specs.Leaves.{is_at, last_leave}
use Rattle.bm_table.specs.Tables.{moves}
use Rattle.bm_connections.proofs.Moving.{leaves_by, leaves_none}
use Rattle.bm_connections.proofs.moved.last_leave.Goals as goal

pub returns-then-is_at-clause-change : goal.returns-then-is_at-clause-change
returns-then-is_at-clause-change c =
    let plan = c.args.plan.now
    in let b = c.args.bucket
    in let end = c.loop-before.end
    in let by = leaves_by plan b (moves plan b 0 end) end c.in-Some.before c.args.server refl
    (sym c.last_move.ensures.change ∙ c.in-Some.is)
    in let at : is_at plan b c.args.server c.in-Some.before ≡ true = sym c.is_at.ensures ∙ c.if-is_at.true
    in let last : last_leave plan b c.args.server end ≡ Some c.in-Some.before = rw at at by
    in sym last ∙ c.loop-before.invariant.same

pub loop-before-preserved : goal.loop-before-preserved
loop-before-preserved c =
    let plan = c.args.plan.now
    in let b = c.args.bucket
    in let end = c.loop-before.end
    in let by = leaves_by plan b (moves plan b 0 end) end c.in-Some.before c.args.server refl
    (sym c.last_move.ensures.change ∙ c.in-Some.is)
    in let at : is_at plan b c.args.server c.in-Some.before ≡ false = sym c.is_at.ensures ∙ c.if-is_at.false
    in let before : last_leave plan b c.args.server end ≡ last_leave plan b c.args.server c.in-Some.before = rw at at by
    in let below = c.in-Some.ensures.below
    in record {
      within = omega (arith, c.loop-before.invariant.within, below);
      same = sym before ∙ c.loop-before.invariant.same;
    }

pub returns-clause-change : goal.returns-clause-change
returns-clause-change c =
    let plan = c.args.plan.now
    in let b = c.args.bucket
    in let end = c.loop-before.end
    in sym (leaves_none plan b (moves plan b 0 end) end c.args.server refl (sym c.last_move.ensures.change ∙ c.in_default.is))
    ∙ c.loop-before.invariant.same
