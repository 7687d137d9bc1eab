use Rattle.std.proofs.Common.{length}
use Rattle.bm_ipv4.proofs.Words.{IsSumming}
use Rattle.bm_ipv4.proofs.checksum.header_sum.Given as goal

abbrev pub invariant-loop-pairs : goal.invariant-loop-pairs
invariant-loop-pairs l = IsSumming l.sum l.pairs l.octets

abbrev pub decreases-loop-pairs : goal.decreases-loop-pairs
decreases-loop-pairs l = length l.pairs

abbrev pub invariant-loop-rest : goal.invariant-loop-rest
invariant-loop-rest l = IsSumming l.sum l.rest l.octets

abbrev pub decreases-loop-rest : goal.decreases-loop-rest
decreases-loop-rest l = length l.rest
