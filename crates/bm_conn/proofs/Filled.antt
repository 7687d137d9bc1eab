-- What a change of one slot does to the map.
use Rattle.std.proofs.Common.{◌≡◌, ℕ, zero, suc, ◌+◌, ◌<◌, ◌≤◌, true, false, cond, List, [], ◌∷◌, length, set, Some}
use Rattle.std.proofs.Common.{None, inl, inr, refl, sym, subst, ◌∙◌, arith}
use Rattle.std.proofs.lemmas.Bool.{cases_Bool}
use Rattle.bm_base.specs.declared.flow.Flow.{Flow}
use Rattle.bm_base.specs.Segments.{same_flow}
use Rattle.bm_seq.specs.declared.receiver.Receiver.{Receiver}
use Rattle.bm_conn.specs.declared.slot.Slot.{Slot}
use Rattle.bm_conn.specs.declared.slot.Slot.TheVariants.{Free, Used}
use Rattle.bm_conn.specs.Connections.{receiver_in, AreOnce}
use Rattle.bm_conn.specs.Slots.{slot_at, is_free, is_of}
use Rattle.bm_conn.specs.Inside.Slots.{used}
use Rattle.bm_conn.proofs.Flows.{same_flow-true, same_flow_refl, same_flow_sym, apart_from}

not_used : (f : Flow) (r : Receiver) → Used f r ≡ Free → ⊥
not_used f r e = cc

-- what stands in no slot is no flow's
pub absent : (s : List Slot) (f : Flow) → ((p : ℕ) → p < length s → is_of f (slot_at s p) ≡ false)
    → receiver_in (used s) f ≡ None
absent [] f none = refl
absent (Free ∷ s) f none = absent s f (λ p h. none (suc p) (omega arith))
absent (Used g r ∷ s) f none =
    let here : same_flow g f ≡ false = none 0 (omega arith)
    in rw here (absent s f (λ p h. none (suc p) (omega arith)))

-- and a flow that isn't there stands in no slot
pub absent_at : (s : List Slot) (f : Flow) (p : ℕ) → p < length s → receiver_in (used s) f ≡ None
    → is_of f (slot_at s p) ≡ false
absent_at [] f p h none = refl
absent_at (Free ∷ s) f zero h none = refl
absent_at (Free ∷ s) f (suc p) h none = absent_at s f p (omega arith) none
absent_at (Used g r ∷ s) f zero h none = elim (cases_Bool (same_flow g f)) [
  | inl here ↦ let bad = rw here at none in absurd (cc)
  | inr there ↦ there
]
absent_at (Used g r ∷ s) f (suc p) h none = elim (cases_Bool (same_flow g f)) [
  | inl here ↦ let bad = rw here at none in absurd (cc)
  | inr there ↦ absent_at s f p (omega arith) (rw there at none)
]

-- PUT

pub receiver_filled : (s : List Slot) (p : ℕ) (f : Flow) (r : Receiver) (g : Flow) → p < length s → slot_at s p ≡ Free
    → receiver_in (used s) f ≡ None
    → receiver_in (used (set s p (Used f r))) g ≡ cond (same_flow f g) (Some r) (receiver_in (used s) g)
receiver_filled [] p f r g h free none = absurd (omega arith)
receiver_filled (Free ∷ s) zero f r g h free none = refl
receiver_filled (Used x y ∷ s) zero f r g h free none = absurd (not_used x y free)
receiver_filled (Free ∷ s) (suc p) f r g h free none = receiver_filled s p f r g (omega arith) free none
receiver_filled (Used x y ∷ s) (suc p) f r g h free none = elim (cases_Bool (same_flow x f)) [
  | inl same ↦ let bad = rw same at none in absurd (cc)
  | inr other ↦
      let behind : receiver_in (used s) f ≡ None = rw other at none
      in elim (cases_Bool (same_flow x g)) [
        | inl here ↦ rw (here, apart_from x f g other here) refl
        | inr there ↦ rw there (receiver_filled s p f r g (omega arith) free behind)
      ]
]

pub length_filled : (s : List Slot) (p : ℕ) (f : Flow) (r : Receiver) → p < length s → slot_at s p ≡ Free
    → length (used (set s p (Used f r))) ≡ length (used s) + 1
length_filled [] p f r h free = absurd (omega arith)
length_filled (Free ∷ s) zero f r h free = omega arith
length_filled (Used x y ∷ s) zero f r h free = absurd (not_used x y free)
length_filled (Free ∷ s) (suc p) f r h free = length_filled s p f r (omega arith) free
length_filled (Used x y ∷ s) (suc p) f r h free = omega (arith, length_filled s p f r (omega arith) free)

pub once_filled : (s : List Slot) (p : ℕ) (f : Flow) (r : Receiver) → p < length s → slot_at s p ≡ Free
    → receiver_in (used s) f ≡ None → AreOnce (used s) → AreOnce (used (set s p (Used f r)))
once_filled [] p f r h free none once = absurd (omega arith)
once_filled (Free ∷ s) zero f r h free none once = (none, once)
once_filled (Used x y ∷ s) zero f r h free none once = absurd (not_used x y free)
once_filled (Free ∷ s) (suc p) f r h free none once = once_filled s p f r (omega arith) free none once
once_filled (Used x y ∷ s) (suc p) f r h free none once = elim (cases_Bool (same_flow x f)) [
  | inl same ↦ let bad = rw same at none in absurd (cc)
  | inr other ↦
      let behind : receiver_in (used s) f ≡ None = rw other at none
      in let away : same_flow f x ≡ false = same_flow_sym f x ∙ other
      in let still : receiver_in (used (set s p (Used f r))) x ≡ None =
      receiver_filled s p f r x (omega arith) free behind ∙ rw away once.0
      in (still, once_filled s p f r (omega arith) free behind once.1)
]

-- TAKEN AWAY

-- the receiver of a flow that stands in a slot
pub receiver_at : (s : List Slot) (p : ℕ) (f : Flow) (r : Receiver) → p < length s → slot_at s p ≡ Used f r
    → AreOnce (used s) → receiver_in (used s) f ≡ Some r
receiver_at [] p f r h is once = absurd (omega arith)
receiver_at (Free ∷ s) zero f r h is once = absurd (not_used f r (sym is))
receiver_at (Used x y ∷ s) zero f r h is once =
    let e : x ≡ f = cc
    in let k : y ≡ r = cc
    in rw (e, k, same_flow_refl f) refl
receiver_at (Free ∷ s) (suc p) f r h is once = receiver_at s p f r (omega arith) is once
receiver_at (Used x y ∷ s) (suc p) f r h is once =
    let there : receiver_in (used s) f ≡ Some r = receiver_at s p f r (omega arith) is once.1
    in elim (cases_Bool (same_flow x f)) [
      | inl same ↦
          let eq : x ≡ f = same_flow-true x f same
          in let none : receiver_in (used s) f ≡ None = subst (λ (z : Flow). receiver_in (used s) z ≡ None) eq once.0
          in absurd (cc)
      | inr other ↦ rw other there
    ]

-- what isn't there isn't there when a slot is freed
none_freed : (s : List Slot) (p : ℕ) (g : Flow) → receiver_in (used s) g ≡ None
    → receiver_in (used (set s p Free)) g ≡ None
none_freed [] p g none = none
none_freed (Free ∷ s) zero g none = none
none_freed (Free ∷ s) (suc p) g none = none_freed s p g none
none_freed (Used x y ∷ s) zero g none = elim (cases_Bool (same_flow x g)) [
  | inl same ↦ let bad = rw same at none in absurd (cc)
  | inr other ↦ rw other at none
]
none_freed (Used x y ∷ s) (suc p) g none = elim (cases_Bool (same_flow x g)) [
  | inl same ↦ let bad = rw same at none in absurd (cc)
  | inr other ↦ rw other (none_freed s p g (rw other at none))
]

pub once_freed : (s : List Slot) (p : ℕ) → AreOnce (used s) → AreOnce (used (set s p Free))
once_freed [] p once = once
once_freed (Free ∷ s) zero once = once
once_freed (Free ∷ s) (suc p) once = once_freed s p once
once_freed (Used x y ∷ s) zero once = once.1
once_freed (Used x y ∷ s) (suc p) once = (none_freed s p x once.0, once_freed s p once.1)

pub receiver_freed : (s : List Slot) (p : ℕ) (f : Flow) (r : Receiver) (g : Flow) → p < length s
    → slot_at s p ≡ Used f r → AreOnce (used s)
    → receiver_in (used (set s p Free)) g ≡ cond (same_flow f g) None (receiver_in (used s) g)
receiver_freed [] p f r g h is once = absurd (omega arith)
receiver_freed (Free ∷ s) zero f r g h is once = absurd (not_used f r (sym is))
receiver_freed (Used x y ∷ s) zero f r g h is once =
    let e : x ≡ f = cc
    in elim (cases_Bool (same_flow f g)) [
      | inl same ↦
          let eq : x ≡ g = e ∙ same_flow-true f g same
          in rw same (subst (λ (z : Flow). receiver_in (used s) z ≡ None) eq once.0)
      | inr other ↦ rw (e, other) refl
    ]
receiver_freed (Free ∷ s) (suc p) f r g h is once = receiver_freed s p f r g (omega arith) is once
receiver_freed (Used x y ∷ s) (suc p) f r g h is once =
    let there : receiver_in (used s) f ≡ Some r = receiver_at s p f r (omega arith) is once.1
    in elim (cases_Bool (same_flow x g)) [
      | inl here ↦ elim (cases_Bool (same_flow f g)) [
        | inl same ↦
            let eq : x ≡ f = same_flow-true x g here ∙ sym (same_flow-true f g same)
            in let none : receiver_in (used s) f ≡ None = subst (λ (z : Flow). receiver_in (used s) z ≡ None) eq once.0
            in absurd (cc)
        | inr other ↦ rw (here, other) refl
      ]
      | inr away ↦ rw away (receiver_freed s p f r g (omega arith) is once.1)
    ]

pub length_freed : (s : List Slot) (p : ℕ) (f : Flow) (r : Receiver) → p < length s → slot_at s p ≡ Used f r
    → length (used (set s p Free)) + 1 ≡ length (used s)
length_freed [] p f r h is = absurd (omega arith)
length_freed (Free ∷ s) zero f r h is = absurd (not_used f r (sym is))
length_freed (Used x y ∷ s) zero f r h is = omega arith
length_freed (Free ∷ s) (suc p) f r h is = length_freed s p f r (omega arith) is
length_freed (Used x y ∷ s) (suc p) f r h is = omega (arith, length_freed s p f r (omega arith) is)

-- SPARE

-- where fewer are used than there are slots, one is free
pub some_free : (s : List Slot) → length (used s) < length s → (p : ℕ) × (p < length s) × (is_free (slot_at s p) ≡ true)
some_free [] few = absurd (omega arith)
some_free (Free ∷ s) few = (0, omega arith, refl)
some_free (Used x y ∷ s) few =
    let rest : (p : ℕ) × (p < length s) × (is_free (slot_at s p) ≡ true) = some_free s (omega arith)
    in (suc rest.0, omega arith, rest.2)

-- where a slot is free and two fewer are used than there are, another one is free
pub another_free : (s : List Slot) (i : ℕ) → i < length s → length (used s) + 2 ≤ length s → (p : ℕ) × (p < length s)
    × (is_free (slot_at s p) ≡ true) × (p ≡ i → ⊥)
another_free [] i h few = absurd (omega arith)
another_free (Free ∷ s) zero h few =
    let rest : (p : ℕ) × (p < length s) × (is_free (slot_at s p) ≡ true) = some_free s (omega arith)
    in (suc rest.0, omega arith, rest.2, λ e. omega arith)
another_free (Free ∷ s) (suc i) h few = (0, omega arith, refl, λ e. omega arith)
another_free (Used x y ∷ s) zero h few =
    let rest : (p : ℕ) × (p < length s) × (is_free (slot_at s p) ≡ true) = some_free s (omega arith)
    in (suc rest.0, omega arith, rest.2, λ e. omega arith)
another_free (Used x y ∷ s) (suc i) h few =
    let rest : (p : ℕ) × (p < length s) × (is_free (slot_at s p) ≡ true) × (p ≡ i → ⊥) =
    another_free s i (omega arith) (omega arith)
    in (suc rest.0, omega arith, rest.2, λ e. rest.3 (omega arith))
