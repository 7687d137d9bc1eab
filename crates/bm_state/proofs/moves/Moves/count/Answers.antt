use Rattle.bm_state.proofs.Moving.{counted}
use Rattle.bm_state.proofs.moves.Moves.count.Goals as goal

pub overflow_sub-result : goal.overflow_sub-result
overflow_sub-result c =
    (counted c.args.plan.now c.args.bucket c.args.since.0 c.args.version.0 c.passed.result c.passed-2.result
    c.requires.order c.passed.ensures c.passed-2.ensures).0

pub returns : goal.returns
returns c =
    (counted c.args.plan.now c.args.bucket c.args.since.0 c.args.version.0 c.passed.result c.passed-2.result
    c.requires.order c.passed.ensures c.passed-2.ensures).1
