use Rattle.bm_mux.specs.Inside.Keeping.{IsKept, seen_by}
use Rattle.bm_mux.proofs.Kept.{kept_later}
use Rattle.bm_mux.proofs.mux.Mux.batch.Goals as goal

pub batch-done-requires-clause-kept : goal.batch-done-requires-clause-kept
batch-done-requires-clause-kept c =
    let n = c.self.inside.notes in
    let same = c.reserve.ensures.same in
    let kept : IsKept n.id n.buckets n.version.0 n.clock.0 n.log.items c.in_ok-guard.guard =
    kept_later n.id n.buckets n.version.0 n.clock.0 n.log.items (seen_by c.self.inside.look) c.self.invariant.1
    c.in_ok-guard.guard c.in_ok-guard.ensures.ok in
    rw (same.0.0, same.0.1, same.0.2, same.1, c.reserve.ensures.log) kept
