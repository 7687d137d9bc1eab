use Rattle.std.proofs.Common.{◌≡◌, drop, max}
use Rattle.std.specs.Prelude.{map}
use Rattle.bm_lifetime.specs.Lifetime.{greatest}
use Rattle.bm_lifetime.proofs.script.longest_delay.Given as goal

abbrev pub invariant-loop-row : goal.invariant-loop-row
invariant-loop-row l =
    max l.most (greatest (map (λ row. row.fate.delay) (drop l.row-index l.rows)))
    ≡ greatest (map (λ row. row.fate.delay) l.rows)
