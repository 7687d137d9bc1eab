use Rattle.std.proofs.Common.{◌∙◌}
use Rattle.bm_state.proofs.owners.Owners.observe.Goals as goal

pub returns-in-Steer : goal.returns-in-Steer
returns-in-Steer c past e is at labels keeps =
    c.observe_steer.ensures past e c.in-Steer.mux (is ∙ c.in-Steer.is) keeps
