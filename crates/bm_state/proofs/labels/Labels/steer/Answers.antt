use Rattle.std.proofs.Common.{refl}
use Rattle.bm_state.proofs.Labelling.{labels_steer}
use Rattle.bm_state.proofs.labels.Labels.steer.Goals as goal

pub returns : goal.returns
returns c stage past e is at keeps =
    labels_steer stage past e c.args.self.now c.put.new.self c.args.packet c.args.mux _ is refl at c.put.ensures keeps
