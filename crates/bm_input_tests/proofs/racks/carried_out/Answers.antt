use Rattle.std.proofs.Common.{◌≡◌, ℕ, ◌-◌, ◌%◌, ◌<◌, List, [], ◌∷◌, length, map, inl, inr, refl, sym, ap, ◌∙◌, subst, arith, rules}
use Rattle.std.proofs.lemmas.Bool.{cases_eq, eq-eqb}
use Rattle.bm_base.specs.declared.ids.ServerId.{ServerId}
use Rattle.bm_controller.specs.Racks.{EachRackHasMember}
use Rattle.bm_controller.specs.Controlled.{in_rack, members_of, Controlled}
use Rattle.bm_input_tests.proofs.racks.carried_out.Goals as goal

each_has : (first_rack second_rack : ℕ) → first_rack ≡ 0 → second_rack ≡ 1
    → EachRackHasMember 2 (members_of (record { 0 = 1 } ∷ record { 0 = 2 } ∷ []) (1 ∷ 1 ∷ []) (first_rack ∷ second_rack ∷ []))
each_has first_rack second_rack z o rack below =
    rw (z, o) (elim (cases_eq 0 rack) [
      | inl first ↦ rw (eq-eqb 0 rack first) (omega arith)
      | inr other ↦
          let second : 1 ≡ rack = omega arith
          in subst (λ r. 0 < length (in_rack r (members_of (record { 0 = 1 } ∷ record { 0 = 2 } ∷ []) (1 ∷ 1 ∷ []) (0 ∷ 1 ∷ []))))
          second (omega arith)
    ])

pub new-policy-requires : goal.new-policy-requires
new-policy-requires c = record {
  count = (omega arith, omega arith);
  rack = λ s. 1 - s.0 % 2;
  takes = λ s number. search rules;
  answers = λ s r number h. h.1;
  below = λ s number. omega arith;
}

pub new-requires-clause-rule : goal.new-requires-clause-rule
new-requires-clause-rule c = rw (c.new-policy.ensures.value.0, c.new-policy.ensures.value.1) (record {
  count = (omega arith, omega arith);
  rack = λ s. 1 - s.0 % 2;
  takes = λ s number. search rules;
  answers = λ s r number h. h.1;
  below = λ s number. omega arith;
})

pub new-requires-clause-each : goal.new-requires-clause-each
new-requires-clause-each c = λ p rack below.
    each_has (p.rack (record { 0 = 1 })) (p.rack (record { 0 = 2 }))
    (sym (p.answers (record { 0 = 1 }) 0 (omega arith, omega arith) (record { 0 = 1 }, refl)))
    (sym (p.answers (record { 0 = 2 }) 1 (omega arith, omega arith) (record { 0 = 2 }, refl))) rack
    (subst (λ n. rack < n) c.new-policy.ensures.value.1 below)

pub add-added-requires-clause-rule : goal.add-added-requires-clause-rule
add-added-requires-clause-rule c =
    rw (c.in_ok-controller.ensures.policy, c.new-policy.ensures.value.0, c.new-policy.ensures.value.1) (record {
      count = (omega arith, omega arith);
      rack = λ s. 1 - s.0 % 2;
      takes = λ s number. search rules;
      answers = λ s r number h. h.1;
      below = λ s number. omega arith;
    })

pub add-added-requires-clause-racks : goal.add-added-requires-clause-racks
add-added-requires-clause-racks c =
    let opening = c.in_ok-controller.ensures.opening (rw (c.new-policy.ensures.value.0, c.new-policy.ensures.value.1) (record {
      count = (omega arith, omega arith);
      rack = λ s. 1 - s.0 % 2;
      takes = λ s number. search rules;
      answers = λ s r number h. h.1;
      below = λ s number. omega arith;
    }))
    in rw c.in_ok-controller.ensures.policy (sym (ap (λ (x : Controlled). x.racks) opening))
