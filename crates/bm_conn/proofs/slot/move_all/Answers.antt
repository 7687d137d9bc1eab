use Rattle.std.proofs.Common.{◌≡◌, ◌+◌, ◌<◌, ◌≤◌, List, length, take, sym, subst, ◌∙◌, arith}
use Rattle.bm_conn.specs.declared.slot.Slot.{Slot}
use Rattle.bm_conn.specs.Inside.Slots.{used, AreMoved}
use Rattle.bm_conn.proofs.Changes.{moved_none, moved_more, moved_skip, before_few, before_absent}
use Rattle.bm_conn.proofs.slot.move_all.Goals as goal
use Rattle.bm_conn.proofs.slot.move_all.Goals.{in-Used, in-Free}

pub loop-place-init : goal.loop-place-init
loop-place-init c = moved_none c.args.places.now c.requires.free

pub put-requires-clause-spare : goal.put-requires-clause-spare
put-requires-clause-spare c =
    let few : length (used (take c.loop-place.place-index c.args.old.now)) ≤ length (used c.args.old.now) =
    before_few c.args.old.now c.loop-place.place-index
    in let count : length (used c.loop-place.places) ≡ length (used (take c.loop-place.place-index c.args.old.now)) =
    c.loop-place.invariant.count
    in let size : length c.loop-place.places ≡ length c.args.places.now = c.loop-place.invariant.size
    in let spare : length (used c.args.old.now) < length c.args.places.now = c.requires.spare
    in omega arith

pub put-requires-clause-absent : goal.put-requires-clause-absent
put-requires-clause-absent c =
    c.loop-place.invariant.each c.in-Used.flow
    ∙ before_absent c.args.old.now c.loop-place.place-index c.in-Used.flow c.in-Used.receiver c.loop-place-test.true
    c.in-Used.is c.requires.once

pub loop-place-preserved : goal.loop-place-preserved
loop-place-preserved c = elim c.match-place.branch [
  | in-Used w ↦
      subst (λ (l : List Slot). AreMoved (take (c.loop-place.place-index + 1) c.args.old.now) l
      (length c.args.places.now)) (sym w.places-is)
      (moved_more c.args.old.now c.loop-place.places w.put.new.places (length c.args.places.now)
      c.loop-place.place-index w.in-Used.flow w.in-Used.receiver c.loop-place-test.true w.in-Used.is c.requires.once
      c.loop-place.invariant w.put.ensures.puts w.put.ensures.count)
  | in-Free w ↦
      subst (λ (l : List Slot). AreMoved (take (c.loop-place.place-index + 1) c.args.old.now) l
      (length c.args.places.now)) (sym w.places-is)
      (moved_skip c.args.old.now c.loop-place.places (length c.args.places.now) c.loop-place.place-index
      c.loop-place-test.true w.in-Free.is c.loop-place.invariant)
]
