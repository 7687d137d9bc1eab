use Rattle.std.proofs.Common.{◌∙◌}
use Rattle.bm_state.proofs.holders.FlowHolders.place.Goals as goal

pub returns : goal.returns
returns c stage past flow keeps = c.alive_in.ensures ∙ keeps.held_of_each c.args.server
