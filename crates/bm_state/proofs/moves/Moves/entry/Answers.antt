use Rattle.std.proofs.Common.{◌∙◌}
use Rattle.bm_state.proofs.Moving.{entry_in}
use Rattle.bm_state.proofs.moves.Moves.entry.Goals as goal

pub returns : goal.returns
returns c =
    let same = c.get-moves.ensures ∙ c.requires.moves c.args.bucket
    in (λ i. record { cur = c.server_at.ensures i; prev = c.past_at.ensures i; older = c.older_at.ensures i })
    ∙ entry_in c.args.plan.now c.args.bucket c.args.version.0 c.rank-count.result c.get-moves.result.now same
    (c.rank-count.ensures.planned c.args.plan.now c.args.bucket same)
