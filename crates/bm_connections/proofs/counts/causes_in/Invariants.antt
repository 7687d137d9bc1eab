use Rattle.std.proofs.Common.{◌≡◌, filter, map, take}
use Rattle.bm_connections.specs.Counts.{all_causes, occurs}
use Rattle.bm_connections.specs.Inside.Packets.{count, packets_in}
use Rattle.bm_connections.proofs.counts.causes_in.Given as goal

abbrev pub invariant-loop-cause : goal.invariant-loop-cause
invariant-loop-cause l = record {
  counts : l.counts.items
      ≡ filter occurs (map (λ c. count (packets_in l.packets c) l.table c) (take l.cause-index all_causes));
}
