use Rattle.std.proofs.Common.{◌≡◌, ℕ, drop}
use Rattle.bm_encap.specs.Faults.{differing}
use Rattle.bm_encap.specs.declared.fault.EncapFault.{EncapFault}
use Rattle.bm_encap.proofs.read.differing.Given as goal

abbrev pub invariant-loop-place : goal.invariant-loop-place
invariant-loop-place l =
    (fault : ℕ → EncapFault) → differing l.octets fault (drop l.place-index l.fixed) ≡ differing l.octets fault l.fixed
