use Rattle.std.proofs.Common.{◌∙◌}
use Rattle.bm_state.proofs.labels.Labels.observe.Goals as goal

pub returns-in-Steer : goal.returns-in-Steer
returns-in-Steer c stage past e is versions keeps =
    c.steer.ensures stage past e (is ∙ c.in-Steer.is) (c.of.ensures past versions) keeps
