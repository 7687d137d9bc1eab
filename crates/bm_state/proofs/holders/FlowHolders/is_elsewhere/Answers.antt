use Rattle.std.proofs.Common.{◌∙◌}
use Rattle.bm_state.proofs.Holding.{elsewhere_from}
use Rattle.bm_state.proofs.holders.FlowHolders.is_elsewhere.Goals as goal

pub returns : goal.returns
returns c stage past flow keeps =
    c.is_other_alive.ensures ∙ elsewhere_from stage past flow _ _ c.args.server keeps
