use Rattle.std.proofs.Common.{◌≡◌, ◌+◌, ◌<◌, length, suc, arith, subst}
use Rattle.std.proofs.lemmas.List.{get_or_read}
use Rattle.bm_connections.specs.OpenEnds.{open_ends_by}
use Rattle.bm_connections.specs.Inside.OpenEnds.{none}
use Rattle.bm_connections.proofs.LeftOpen.{ends_more}
use Rattle.bm_connections.proofs.left_open.open_ends_by.Goals as goal

pub loop-version-preserved : goal.loop-version-preserved
loop-version-preserved c =
    let v = c.loop-version.version
    in let counts = c.in_ok-counts.counts.items
    in let many = c.in_ok-counts.ensures.length
    in let within = c.loop-version-test.true
    in let below : v < length counts = omega (arith, many, within)
    in let one : suc v ≡ v + 1 = omega arith
    in record {
      ends =
          subst (λ n. c.push_if_any.new.ends.items ≡ open_ends_by c.args.away.now n) one
          (ends_more counts c.args.away.now v c.index.result.now c.loop-version.ends.items c.push_if_any.new.ends.items
          c.in_ok-counts.ensures.counts below (get_or_read counts v c.index.result.now below c.index.ensures none)
          c.in_ok-push_if_any.ensures c.loop-version.invariant.ends);
    }
