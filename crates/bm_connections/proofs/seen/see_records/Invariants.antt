use Rattle.std.proofs.Common.{reverse, take}
use Rattle.bm_connections.specs.Inside.Rows.{IsSeen}
use Rattle.bm_connections.proofs.seen.see_records.Given as goal

abbrev pub invariant-loop-place : goal.invariant-loop-place
invariant-loop-place l = record { seen : IsSeen (reverse (take l.place l.records)) l.seen }
