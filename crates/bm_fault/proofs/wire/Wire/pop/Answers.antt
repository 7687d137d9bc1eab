use Rattle.std.proofs.Common.{List, map, sym, subst}
use Rattle.bm_fault.specs.declared.wire.Queued.{Queued}
use Rattle.bm_fault.specs.Views.{flying_of}
use Rattle.bm_fault.specs.Wires.{DueRise}
use Rattle.bm_fault.proofs.WireLemmas.{rising_rest}
use Rattle.bm_fault.proofs.wire.Wire.pop.Goals as goal

pub invariant_of-self-2 : goal.invariant_of-self-2
invariant_of-self-2 c =
    subst (λ (qs : List Queued). DueRise 0 (map flying_of qs)) (sym c.in_ok-pop_front.ensures.rest)
    (rising_rest _ c.self.invariant)
