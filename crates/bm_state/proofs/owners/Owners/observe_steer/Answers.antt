use Rattle.std.proofs.Common.{ap, ◌∙◌}
use Rattle.bm_state.specs.Inside.Owners.{accept_for}
use Rattle.bm_state.specs.Owners.{accept_in}
use Rattle.bm_state.proofs.Owning.{owners_steer}
use Rattle.bm_state.proofs.owners.Owners.observe_steer.Goals as goal

pub returns : goal.returns
returns c past e mux is keeps =
    owners_steer c.args.stage.now past e c.args.self.now c.put.new.self c.args.packet mux c.get_for-owner.result is
    (c.get_for-owner.ensures ∙ ap (λ s. accept_for (accept_in c.args.self.now.accepts) s) c.segment.ensures)
    c.put.ensures.owners c.put.ensures.accepts keeps
