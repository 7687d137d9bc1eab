use Rattle.std.proofs.Common.{◌∙◌}
use Rattle.bm_connections.proofs.Resetting.{resets_more}
use Rattle.bm_connections.proofs.resets.Resets.observe.Goals as goal

pub returns : goal.returns
returns c = λ past k broke.
    resets_more c.args.stage.now past c.args.event.now c.args.self.now _ (c.reset_of.result) _ c.reset_of.ensures
    (c.is_some.ensures ∙ broke) c.in_ok-change.ensures k
