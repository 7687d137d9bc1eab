use Rattle.std.proofs.Common.{rules}
use Rattle.bm_state.proofs.Retained.{filter_retained}
use Rattle.bm_state.proofs.holder_lists.drop_holder.Goals as goal

pub returns : goal.returns
returns c = filter_retained _ _ _ (λ x b f' y k. search rules) _ _ c.retain.ensures.filtered
