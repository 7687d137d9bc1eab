use Rattle.std.proofs.Common.{◌≡◌, ◌+◌, Some, sym, subst, ◌∙◌, ap}
use Rattle.bm_core.specs.declared.events.Stage.{Stage}
use Rattle.bm_core.specs.Past.{segment_of}
use Rattle.bm_core.specs.Threads.{record_moment}
use Rattle.bm_worker.proofs.Collecting.{mux_is}
use Rattle.bm_worker.proofs.batch.item_at.Goals as goal

pub returns-clause-item : goal.returns-clause-item
returns-clause-item g c m assigned =
    let got : segment_of c.args.shared.now.stage (c.args.at + 1) ≡ Some c.in-Some.segment =
    subst (λ (s : Stage). segment_of s (c.args.at + 1) ≡ Some c.in-Some.segment) c.stage-stage.ensures.value
    (sym c.segment.ensures ∙ c.in-Some.is) in
    let packet = c.octets_at.ensures c.in-Some.segment got in
    record {
      assigned = mux_is m _ assigned;
      moment = c.moment_at.ensures ∙ ap (λ (s : Stage). record_moment s (c.args.at + 1)) c.stage-stage.ensures.value;
      segment = got;
      reads = packet.1;
      short = packet.0;
    }
