use Rattle.std.proofs.Common.{◌≡◌, ◌++◌, ◌+◌, Some, map, take, drop, sym, subst, arith, slice_set}
use Rattle.std.proofs.lemmas.List.Edits.{map_over_more}
use Rattle.bm_publish.specs.Posts.{Posted}
use Rattle.bm_worker.specs.declared.worker.MuxWorker.{MuxWorker}
use Rattle.bm_world.specs.Inside.RunStates.{with_posts}
use Rattle.bm_world.proofs.phase.give_snapshots.Goals as goal

pub loop-place-preserved : goal.loop-place-preserved
loop-place-preserved c =
    let old = c.args.workers.now in
    let now = c.loop-place.workers in
    let i = c.loop-place.place in
    subst (λ (x : MuxWorker). slice_set now i (record x { posted = Some c.snapshot.result })
    ≡ map (with_posts c.args.poster.now) (take (i + 1) old) ++ drop (i + 1) old) c.index-workers-place.is
    (subst (λ (t : Posted). slice_set now i (record c.index-workers-place.result { posted = Some t })
    ≡ map (with_posts c.args.poster.now) (take (i + 1) old) ++ drop (i + 1) old) (sym c.snapshot.ensures)
    (map_over_more (with_posts c.args.poster.now) old now i c.index-workers-place.result
    (omega (arith, c.loop-place-test.true, c.loop-place.auto.place-end)) c.loop-place.invariant
    c.index-workers-place.is))
