use Rattle.std.proofs.Common.{◌≡◌, ◌+◌, map, if◌then◌else◌}
use Rattle.std.specs.Prelude.{take}
use Rattle.bm_quota.specs.Inside.Claims.{is_met_before}
use Rattle.bm_quota.proofs.share.with_one_more.Given as goal

abbrev pub invariant-loop-part : goal.invariant-loop-part
invariant-loop-part l =
    l.quotas.items
    ≡ map (λ p. p.share + (if is_met_before p.claim l.fn.next then 1 else 0)) (take l.part-index l.fn.parts)
