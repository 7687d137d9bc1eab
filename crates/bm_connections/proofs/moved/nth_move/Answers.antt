use Rattle.std.proofs.Common.{◌≡◌, suc, arith, sym, ap}
use Rattle.bm_table.specs.Tables.{moves}
use Rattle.bm_connections.proofs.Moving.{nth_few, nth_found, nth_zero}
use Rattle.bm_connections.proofs.moved.nth_move.Goals as goal

pub returns-then-nth-eq0-clause-change : goal.returns-then-nth-eq0-clause-change
returns-then-nth-eq0-clause-change c =
    sym (nth_zero c.args.plan.now c.args.bucket c.args.nth c.args.version c.if-nth-eq0.true)

pub returns-then-moved-nth-clause-change : goal.returns-then-moved-nth-clause-change
returns-then-moved-nth-clause-change c =
    let few = c.if-moved-nth.true
    in let is = c.moved.ensures.moves
    in sym (nth_few c.args.plan.now c.args.bucket c.args.nth c.args.version (omega (arith, few, is)))

pub returns-clause-change : goal.returns-clause-change
returns-clause-change c =
    let i = c.loop-high.invariant
    in let done = c.loop-high-test.false
    in let next : c.loop-high.high ≡ suc c.loop-high.low = omega (arith, i.order, done)
    in let same : moves c.args.plan.now c.args.bucket 0 c.loop-high.high
    ≡ moves c.args.plan.now c.args.bucket 0 (suc c.loop-high.low) =
    ap (λ x. moves c.args.plan.now c.args.bucket 0 x) next
    in sym (nth_found c.args.plan.now c.args.bucket c.args.nth c.loop-high.low c.args.version
    (omega (arith, i.order, i.within)) i.fewer (omega (arith, i.enough, same)))
