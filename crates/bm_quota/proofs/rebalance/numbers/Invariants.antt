use Rattle.std.proofs.Common.{ℕ, ◌<◌, get_or}
use Rattle.bm_base.specs.declared.ids.ServerId.{ServerId}
use Rattle.bm_quota.proofs.rebalance.numbers.Given as goal

abbrev pub invariant-loop-s : goal.invariant-loop-s
invariant-loop-s l = (k : ℕ) → (d : ServerId) → k < l.s-index → (get_or l.servers k d).0 < l.numbers
