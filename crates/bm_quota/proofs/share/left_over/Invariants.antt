use Rattle.std.proofs.Common.{◌≡◌, ◌-◌, sum_by}
use Rattle.std.specs.Prelude.{take}
use Rattle.bm_quota.proofs.share.left_over.Given as goal

abbrev pub invariant-loop-part : goal.invariant-loop-part
invariant-loop-part l = l.rest ≡ l.fn.buckets - sum_by (λ p. p.share) (take l.part-index l.fn.parts)
