use Rattle.std.proofs.Common.{◌≤◌, arith, length}
use Rattle.bm_connections.proofs.Copied.{copies-room, numbered-room}
use Rattle.bm_connections.proofs.copies.copies_in.Goals as goal

pub see-requires-clause-copies : goal.see-requires-clause-copies
see-requires-clause-copies c =
    let few : c.loop-record.record-index ≤ length c.args.capture.now.records =
    rw (← c.items-record-items.ensures) c.loop-record.auto.record-index-end in
    let room =
    copies-room c.args.capture.now.records c.loop-record.record-index c.loop-record.copies.count
    c.loop-record.invariant.knows.count few in
    omega (arith, room)

pub see-requires-clause-numbered : goal.see-requires-clause-numbered
see-requires-clause-numbered c =
    let few : c.loop-record.record-index ≤ length c.args.capture.now.records =
    rw (← c.items-record-items.ensures) c.loop-record.auto.record-index-end in
    let room =
    numbered-room c.args.capture.now.records c.loop-record.record-index c.loop-record.copies.count
    c.loop-record.invariant.knows.count few in
    omega (arith, room)
