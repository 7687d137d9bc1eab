use Rattle.std.proofs.Common.{◌∙◌, ap, filter, map}
use Rattle.std.proofs.lemmas.List.{take_all}
use Rattle.bm_base.specs.declared.capture.Reason.{Reason}
use Rattle.std.specs.Prelude.{List}
use Rattle.bm_connections.proofs.Lists.{filtered_more}
use Rattle.bm_connections.specs.Unsteered.{all_reasons, occurs, reason_count}
use Rattle.bm_connections.proofs.unsteered.reasons_of.Goals as goal

pub loop-reason-preserved : goal.loop-reason-preserved
loop-reason-preserved c = record {
  counts = filtered_more occurs (reason_count c.args.records.now) all_reasons c.loop-reason.reason-index _
      c.reason_count.result _ _ c.loop-reason-test.true c.reason_count.ensures c.in_ok-push_occurring.ensures
      c.loop-reason.invariant.counts;
}

pub returns : goal.returns
returns c =
    c.loop-reason.invariant.counts
    ∙ ap (λ (rs : List Reason). filter occurs (map (reason_count c.args.records.now) rs))
    (take_all c.loop-reason.reason-index all_reasons c.loop-reason-test.false)
