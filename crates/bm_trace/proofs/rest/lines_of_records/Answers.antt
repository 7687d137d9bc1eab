use Rattle.std.proofs.Common.{arith, reverse}
use Rattle.bm_trace.specs.Inside.EndTables.{ends_at, with_later}
use Rattle.bm_trace.proofs.Parted.{both_same, ends_there, record_put}
use Rattle.bm_trace.proofs.rest.lines_of_records.Goals as goal

pub loop-place-preserved : goal.loop-place-preserved
loop-place-preserved c =
    let h = c.args.h.now
    in let place = c.loop-place.place
    in record {
      written = record_put (reverse h.events) c.items-records.result.now place _
          (with_later c.first.result c.later.result.now) _ _ (omega arith)
          (ends_there h.events c.items.result.now place (ends_at c.in_ok-ends.ends place) _
          (c.in_ok-ends.ensures.ends place (omega arith)) c.items.ensures
          (both_same c.first.ensures c.later.ensures))
          c.loop-place.invariant.written c.in_ok-write_record.ensures;
    }
