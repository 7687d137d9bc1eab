use Rattle.std.proofs.Common.{map, take}
use Rattle.bm_merge.specs.Inside.Halves.{AreHalves}
use Rattle.bm_merge.proofs.beside.cut.Given as goal

abbrev pub invariant-loop-log : goal.invariant-loop-log
invariant-loop-log l =
    AreHalves l.clock (take l.log-index (map (λ log. log.now) l.logs)) (map (λ log. log.now) l.low.items)
    (map (λ log. log.now) l.high.items)
