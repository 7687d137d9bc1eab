use Rattle.std.proofs.Common.{ap, ◌∙◌}
use Rattle.bm_state.specs.declared.losses.LossTally.{LossTally}
use Rattle.bm_state.specs.declared.losses.SentAt.{SentAt}
use Rattle.bm_state.specs.Losses.{losses_in}
use Rattle.bm_state.proofs.losses.Losses.of.Goals as goal

pub returns : goal.returns
returns c past keeps =
    ap (λ (x : LossTally). x.losses) (c.get.ensures ∙ ap (λ (x : SentAt). losses_in c.args.self.now x) c.of.ensures)
    ∙ keeps.losses_at_each c.args.packet c.args.hop c.args.clock.0
