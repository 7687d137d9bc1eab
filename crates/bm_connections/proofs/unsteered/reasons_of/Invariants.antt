use Rattle.std.proofs.Common.{◌≡◌, filter, map, take}
use Rattle.bm_connections.specs.Unsteered.{all_reasons, occurs, reason_count}
use Rattle.bm_connections.proofs.unsteered.reasons_of.Given as goal

abbrev pub invariant-loop-reason : goal.invariant-loop-reason
invariant-loop-reason l = record {
  counts : l.counts.items ≡ filter occurs (map (reason_count l.records) (take l.reason-index all_reasons));
}
