-- What the code keeps of causes while it goes through events.
use Rattle.std.specs.Prelude.{◌≡◌, ℕ, List, filter, map, count_by, slice_index_or}
use Rattle.bm_core.specs.declared.events.Cause.{Cause}
use Rattle.bm_core.specs.declared.events.Event.{Event}
use Rattle.bm_core.specs.declared.events.Stage.{Stage}
use Rattle.bm_connections.specs.declared.connection.Connection.{Connection}
use Rattle.bm_connections.specs.declared.counts.CauseCount.{CauseCount}
use Rattle.bm_connections.specs.declared.counts.CausePackets.{CausePackets}
use Rattle.bm_connections.specs.Counts.{all_causes, is_break_by, number, occurs, packets_by}

-- how many packets have the cause
abbrev pub packets_in : CausePackets → Cause → ℕ
packets_in p c = slice_index_or p.counts (number c) 0

-- these are the counts of all causes after these events
pub record ArePackets (stage : Stage) (past : List Event) (p : CausePackets) : Type 0 where
  pub each : (c : Cause) → packets_in p c ≡ packets_by stage c past

-- the count of a cause that this many packets have, with these connections
abbrev pub count : ℕ → List Connection → Cause → CauseCount
count packets table c = record {
  cause = c;
  packets = packets;
  broken = count_by (λ x. is_break_by c x.broken) table;
  refused = count_by (λ x. is_break_by c x.refused) table;
}

-- the counts of the causes that occur
abbrev pub causes_in : CausePackets → List Connection → List CauseCount
causes_in p table = filter occurs (map (λ c. count (packets_in p c) table c) all_causes)
