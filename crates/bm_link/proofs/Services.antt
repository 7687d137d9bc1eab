-- A flow that goes to one of the services.
use Rattle.std.proofs.Common.{◌≡◌, true, List, [], ◌∷◌, inl, inr, sym, ◌==◌, ◌&&◌}
use Rattle.std.proofs.lemmas.Bool.{and_parts, eqb-true, or_cases}
use Rattle.bm_base.specs.declared.capture.Vip.{Vip}
use Rattle.bm_base.specs.declared.flow.Flow.{Flow}
use Rattle.bm_base.specs.Captures.{IsService}
use Rattle.bm_link.specs.Classes.{goes_to}

pub goes_to-true : (vips : List Vip) (f : Flow) → goes_to vips f ≡ true → IsService vips f
goes_to-true [] f is = absurd (cc)
goes_to-true (v ∷ vips) f is = elim (or_cases (v.addr == f.dst && v.port == f.dport) (goes_to vips f) is) [
  | inl here ↦
      let parts = and_parts (v.addr == f.dst) (v.port == f.dport) here
      in inl (sym (eqb-true v.addr f.dst parts.0), sym (eqb-true v.port f.dport parts.1))
  | inr there ↦ inr (goes_to-true vips f there)
]
