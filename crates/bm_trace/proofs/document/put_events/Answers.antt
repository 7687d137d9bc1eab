use Rattle.std.proofs.Common.{refl, ◌∙◌}
use Rattle.bm_trace.proofs.Parted.{events_done, events_left, events_more, events_refused, on_err}
use Rattle.bm_trace.proofs.Sweeping.{cause_here, versions_next}
use Rattle.bm_trace.proofs.document.put_events.Goals as goal

pub returns-in_err-write_event-clause-err : goal.returns-in_err-write_event-clause-err
returns-in_err-write_event-clause-err g c =
    on_err _ _
    (events_left c.args.h.now.stage c.items-events.result.now c.args.h.now.events c.loop-place.place
    _ _ _ _ c.items-events.ensures c.loop-place.invariant.written)

pub returns-in_err-observe-clause-err : goal.returns-in_err-observe-clause-err
returns-in_err-observe-clause-err g c =
    on_err _ _
    (events_left c.args.h.now.stage c.items-events.result.now c.args.h.now.events c.loop-place.place
    _ _ _ _ c.items-events.ensures c.loop-place.invariant.written)

pub returns-in_err-put_full-clause-err : goal.returns-in_err-put_full-clause-err
returns-in_err-put_full-clause-err g c =
    on_err _ _
    (events_refused c.args.h.now.stage c.items-events.result.now c.args.h.now.events c.loop-place.place
    _ _ _ _ _ _ _ c.loop-place-test.true c.items-events.ensures c.loop-place.invariant.written
    (c.in_ok-write_event.ensures _ c.loop-place.invariant.known
    (cause_here c.args.h.now c.items-events.result.now c.loop-place.place _ c.args.causes.now _ c.items-events.ensures
    c.loop-place-test.true c.requires.causes c.at-cause.ensures)) c.in_err-put_full.ensures.err)

pub loop-place-preserved : goal.loop-place-preserved
loop-place-preserved g c = record {
  written = events_more c.args.h.now.stage c.items-events.result.now c.loop-place.place _ _ _ _ _ _ _ _
      c.loop-place-test.true c.loop-place.invariant.written
      (c.in_ok-write_event.ensures _ c.loop-place.invariant.known
      (cause_here c.args.h.now c.items-events.result.now c.loop-place.place _ c.args.causes.now _
      c.items-events.ensures c.loop-place-test.true c.requires.causes c.at-cause.ensures)) c.in_ok-put_full.ensures.ok;
  known = versions_next c.items-events.result.now c.loop-place.place _ _ c.loop-place-test.true
      (c.in_ok-observe.ensures _ _ refl c.loop-place.invariant.known);
  later = c.in_ok-put_full.ensures.cause.kept ∙ c.loop-place.invariant.later;
}

pub returns-clause-ok : goal.returns-clause-ok
returns-clause-ok g c =
    events_done c.args.h.now.stage c.items-events.result.now c.args.h.now.events c.loop-place.place _ _ _ _
    c.items-events.ensures c.loop-place-test.false c.loop-place.invariant.written
