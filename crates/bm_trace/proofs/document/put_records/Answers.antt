use Rattle.std.proofs.Common.{◌∙◌, reverse, arith}
use Rattle.bm_trace.proofs.Handing.{none_sent}
use Rattle.bm_trace.specs.Inside.EndTables.{ends_at, with_later}
use Rattle.bm_trace.proofs.Parted.{both_same, ends_there, on_err, records_done, records_left, records_more}
use Rattle.bm_trace.proofs.Parted.{records_refused}
use Rattle.bm_trace.proofs.document.put_records.Goals as goal

pub returns-in_err-ends-clause-err : goal.returns-in_err-ends-clause-err
returns-in_err-ends-clause-err g c = on_err _ _ (none_sent _ _ _)

pub returns-in_err-write_record-clause-err : goal.returns-in_err-write_record-clause-err
returns-in_err-write_record-clause-err g c =
    on_err _ _
    (records_left (reverse c.args.h.now.events) c.items-records.result.now c.args.h.now.stage.capture.records
    c.loop-place.place _ _ _ _ c.items-records.ensures c.loop-place.invariant.written)

pub returns-in_err-put_full-clause-err : goal.returns-in_err-put_full-clause-err
returns-in_err-put_full-clause-err g c =
    on_err _ _
    (records_refused (reverse c.args.h.now.events) c.items-records.result.now c.args.h.now.stage.capture.records
    c.loop-place.place _ (with_later c.first.result c.later.result.now) _ _ _ _ _ _ (omega arith)
    c.items-records.ensures
    (ends_there c.args.h.now.events c.items.result.now c.loop-place.place
    (ends_at c.in_ok-ends.ends c.loop-place.place) _
    (c.in_ok-ends.ensures.ends c.loop-place.place (omega arith)) c.items.ensures
    (both_same c.first.ensures c.later.ensures))
    c.loop-place.invariant.written c.in_ok-write_record.ensures c.in_err-put_full.ensures.err)

pub loop-place-preserved : goal.loop-place-preserved
loop-place-preserved g c = record {
  written = records_more (reverse c.args.h.now.events) c.items-records.result.now c.loop-place.place _
      (with_later c.first.result c.later.result.now) _ _ _ _ _ _ _ (omega arith)
      (ends_there c.args.h.now.events c.items.result.now c.loop-place.place
      (ends_at c.in_ok-ends.ends c.loop-place.place)
      _ (c.in_ok-ends.ensures.ends c.loop-place.place (omega arith)) c.items.ensures
      (both_same c.first.ensures c.later.ensures))
      c.loop-place.invariant.written c.in_ok-write_record.ensures c.in_ok-put_full.ensures.ok;
  later = c.in_ok-put_full.ensures.cause.kept ∙ c.loop-place.invariant.later;
}

pub returns-clause-ok : goal.returns-clause-ok
returns-clause-ok g c =
    records_done (reverse c.args.h.now.events) c.items-records.result.now c.args.h.now.stage.capture.records
    c.loop-place.place _ _ _ _ c.items-records.ensures c.loop-place-test.false c.loop-place.invariant.written
