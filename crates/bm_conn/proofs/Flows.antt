-- When flows are the same.
use Rattle.std.proofs.Common.{◌≡◌, ◌==◌, ◌&&◌, Bool, true, false, inl, inr, refl, arith}
use Rattle.std.proofs.lemmas.Bool.{cases_Bool, and_parts, both_ways}
use Rattle.std.proofs.lemmas.Bool.Decides.{nat_tests}
use Rattle.bm_base.specs.declared.flow.Flow.{Flow}
use Rattle.bm_base.specs.Segments.{same_flow}

pub same_flow-true : (a b : Flow) → same_flow a b ≡ true → a ≡ b
same_flow-true a b h = grind (arith, nat_tests, and_parts)

pub same_flow_refl : (a : Flow) → same_flow a a ≡ true
same_flow_refl a = grind (arith, nat_tests)

-- a flow that isn't x is no flow that x is
pub apart : (g x f : Flow) → same_flow g x ≡ false → same_flow x f ≡ true → same_flow g f ≡ false
apart g x f other same = elim (cases_Bool (same_flow g f)) [
  | inl bad ↦
      let a : g ≡ f = same_flow-true g f bad
      in let b : x ≡ f = same_flow-true x f same
      in let c : same_flow g x ≡ true = rw (a, b) (same_flow_refl f)
      in absurd (both_ways _ other c)
  | inr fine ↦ fine
]

-- what x isn't, no flow that is x is
pub apart_from : (x g f : Flow) → same_flow x g ≡ false → same_flow x f ≡ true → same_flow g f ≡ false
apart_from x g f other same = elim (cases_Bool (same_flow g f)) [
  | inl bad ↦
      let a : g ≡ f = same_flow-true g f bad
      in let b : x ≡ f = same_flow-true x f same
      in let c : same_flow x g ≡ true = rw (a, b) (same_flow_refl f)
      in absurd (both_ways _ other c)
  | inr fine ↦ fine
]

pub same_flow_sym : (a b : Flow) → same_flow a b ≡ same_flow b a
same_flow_sym a b = elim (cases_Bool (same_flow a b)) [
  | inl same ↦ let eq : a ≡ b = same_flow-true a b same in rw eq refl
  | inr other ↦ elim (cases_Bool (same_flow b a)) [
    | inl bad ↦ let eq : b ≡ a = same_flow-true b a bad in rw eq refl
    | inr fine ↦ rw (other, fine) refl
  ]
]

and_assoc : (a b c d : Bool) → (a && (b && (c && d))) ≡ (a && b && c && d)
and_assoc true true true d = refl
and_assoc true true false d = refl
and_assoc true false c d = refl
and_assoc false b c d = refl

-- what a comparison of flows in code computes
pub same_as : (a b : Flow)
    → (a.src == b.src && (a.dst == b.dst && (a.sport == b.sport && a.dport == b.dport))) ≡ same_flow a b
same_as a b = and_assoc (a.src == b.src) (a.dst == b.dst) (a.sport == b.sport) (a.dport == b.dport)
