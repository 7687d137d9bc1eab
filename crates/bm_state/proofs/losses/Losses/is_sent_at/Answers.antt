use Rattle.std.proofs.Common.{ap, sym, ◌∙◌}
use Rattle.std.specs.Prelude.{nat_lt}
use Rattle.bm_state.specs.declared.losses.LossTally.{LossTally}
use Rattle.bm_state.specs.declared.losses.SentAt.{SentAt}
use Rattle.bm_state.specs.Losses.{losses_in}
use Rattle.bm_state.proofs.Losing.{first_sent, other_sent}
use Rattle.bm_state.proofs.losses.Losses.is_sent_at.Goals as goal

pub returns-then-is_first : goal.returns-then-is_first
returns-then-is_first c past keeps =
    first_sent past c.args.self.now c.args.packet c.args.hop c.args.clock.0
    (sym c.is_first.ensures ∙ c.if-is_first.true) keeps

pub returns : goal.returns
returns c past keeps =
    ap (λ (x : LossTally). nat_lt 0 x.sendings)
    (c.get.ensures ∙ ap (λ (x : SentAt). losses_in c.args.self.now x) c.of.ensures)
    ∙ other_sent past c.args.self.now c.args.packet c.args.hop c.args.clock.0
    (sym c.is_first.ensures ∙ c.if-is_first.false) keeps
