use Rattle.bm_lifetime.proofs.seen.note_move.Goals as goal
use Rattle.bm_lifetime.proofs.Seeing.{unwritten, written}

pub returns-then-place-seen : goal.returns-then-place-seen
returns-then-place-seen c =
    λ b. written c.args.at c.args.m.now.bucket b c.args.seen.now c.with_move.result _ c.if-place-seen.true
    c.with_move.ensures

pub returns-else-place-seen : goal.returns-else-place-seen
returns-else-place-seen c =
    λ b. unwritten c.args.at c.args.m.now.bucket b c.args.seen.now c.if-place-seen.false
