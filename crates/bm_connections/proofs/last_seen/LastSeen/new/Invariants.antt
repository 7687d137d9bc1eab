use Rattle.std.proofs.Common.{reverse, take}
use Rattle.bm_connections.specs.Inside.Needs.{KnowsLast}
use Rattle.bm_connections.proofs.last_seen.LastSeen.new.Given as goal

abbrev pub invariant-loop-record : goal.invariant-loop-record
invariant-loop-record l = record { known : KnowsLast (reverse (take l.record-index l.records)) l.last }
