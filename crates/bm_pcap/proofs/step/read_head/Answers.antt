use Rattle.std.proofs.Common.{arith, ◌<◌}
use Rattle.bm_pcap.proofs.Steps.{head_end, head_large, head_cut, head_stated, open_head}
use Rattle.bm_pcap.proofs.step.read_head.Goals as goal

pub returns-in_err-count-clause-open : goal.returns-in_err-count-clause-open
returns-in_err-count-clause-open g c why =
    open_head c.args.form.now c.args.place.now _ _ c.min.ensures c.in_err-count.ensures.short
    c.if-place-gt-MOST_RECORDS.false

pub returns-then-count-eq0-clause-gives : goal.returns-then-count-eq0-clause-gives
returns-then-count-eq0-clause-gives g c =
    head_end _ c.args.form.now c.args.place.now _ _ _ c.min.ensures c.in_ok-count.ensures.ahead c.if-count-eq0.true

pub returns-then-count-room-clause-gives : goal.returns-then-count-room-clause-gives
returns-then-count-room-clause-gives g c =
    head_large _ c.args.form.now c.args.place.now _ _ _ c.min.ensures c.in_ok-count.ensures.ahead c.if-count-header.true
    c.if-count-room.true c.if-place-gt-MOST_RECORDS.false

pub returns-else-count-room-clause-gives : goal.returns-else-count-room-clause-gives
returns-else-count-room-clause-gives g c =
    let some : 0 < c.in_ok-count.count = omega arith in
    head_cut _ c.args.form.now c.args.place.now _ _ _ c.min.ensures c.in_ok-count.ensures.ahead some
    c.if-count-header.true c.if-count-room.false c.if-place-gt-MOST_RECORDS.false

pub returns-clause-gives : goal.returns-clause-gives
returns-clause-gives g c =
    head_stated _ c.args.form.now c.args.place.now _ _ _ c.buffered.result.now c.states.result c.min.ensures
    c.in_ok-count.ensures.bound.0 c.in_ok-count.ensures.ahead c.if-count-header.false c.if-place-gt-MOST_RECORDS.false
    c.buffered.ensures c.states.ensures.stated
