use Rattle.std.proofs.Common.{subst, sym}
use Rattle.bm_state.proofs.Newest.{reverse_take}
use Rattle.bm_connections.specs.Inside.Needs.{KnowsLast}
use Rattle.bm_connections.proofs.last_seen.LastSeen.new.Goals as goal

pub loop-record-preserved : goal.loop-record-preserved
loop-record-preserved c = record {
  known = subst (λ records. KnowsLast records c.see.new.self)
      (sym (reverse_take c.args.records.now c.loop-record.record-index _ c.loop-record-test.true))
      (c.in_ok-see.ensures _ c.loop-record.invariant.known);
}
