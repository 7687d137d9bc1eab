use Rattle.std.proofs.Common.{◌<◌, arith, length}
use Rattle.std.proofs.lemmas.List.{get_or_read}
use Rattle.bm_connections.proofs.Counted.{counted-at, owned-more}
use Rattle.bm_connections.proofs.owned.Owners.counts.Goals as goal

pub loop-number-preserved : goal.loop-number-preserved
loop-number-preserved c =
    let lt : c.loop-number.number < length c.self.inside.counts.items =
    omega (arith, c.loop-number-test.true, c.len-number-end.ensures, c.self.invariant.few) in
    owned-more c.args.self.now.owners c.loop-number.number c.index.result.now c.loop-number.found.items _
    (counted-at c.self.inside c.args.self.now c.self.view_is c.self.invariant c.loop-number.number c.index.result.now lt
    (get_or_read c.self.inside.counts.items _ _ lt c.index.ensures 0))
    c.in_ok-push_owning.ensures c.loop-number.invariant
