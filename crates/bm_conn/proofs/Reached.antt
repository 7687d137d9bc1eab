-- Where a flow stands, and what a walk to it shows.
use Rattle.std.proofs.Common.{◌≡◌, ℕ, ◌<◌, ◌≤◌, true, false, List, length, set, None, inl, inr, refl, sym, ap, subst}
use Rattle.std.proofs.Common.{◌∙◌, arith, get_or-set_same, get_or-set_other}
use Rattle.std.proofs.lemmas.Bool.{cases_Bool, cases_eq, cases_lt, both_ways}
use Rattle.bm_base.specs.declared.flow.Flow.{Flow}
use Rattle.bm_seq.specs.declared.receiver.Receiver.{Receiver}
use Rattle.bm_conn.specs.declared.slot.Slot.{Slot}
use Rattle.bm_conn.specs.declared.slot.Slot.TheVariants.{Free, Used}
use Rattle.bm_conn.specs.Connections.{receiver_in}
use Rattle.bm_conn.specs.Slots.{slot_at, is_free, is_of, distance, home, AreReached}
use Rattle.bm_conn.specs.Inside.Slots.{used}
use Rattle.bm_conn.proofs.Flows.{same_flow-true}
use Rattle.bm_conn.proofs.Places.{distance_same, home-lt}
use Rattle.bm_conn.proofs.Filled.{absent}

pub used_by : (x : Slot) (f : Flow) → is_of f x ≡ true → (r : Receiver) × (x ≡ Used f r)
used_by Free f is = absurd (cc)
used_by (Used g r) f is = (r, ap (λ (h : Flow). Used h r) (same_flow-true g f is))

pub free_is : (x : Slot) → is_free x ≡ true → x ≡ Free
free_is Free is = refl
free_is (Used g r) is = absurd (cc)

pub used_is : (x : Slot) (f : Flow) (r : Receiver) → x ≡ Used f r → is_free x ≡ false
used_is x f r is = ap (λ (y : Slot). is_free y) is

-- what a walk passed
abbrev pub HasPassed : List Slot → Flow → ℕ → Type 0
HasPassed s f place =
    (k : ℕ) → k < length s → distance (length s) (home (length s) f) k < distance (length s) (home (length s) f) place
    → (is_free (slot_at s k) ≡ false) × (is_of f (slot_at s k) ≡ false)

-- a walk that ends at a free slot shows that the flow isn't there
pub found_none : (s : List Slot) (f : Flow) (place : ℕ) → AreReached s (length s) → place < length s
    → is_free (slot_at s place) ≡ true → HasPassed s f place
    → receiver_in (used s) f ≡ None
found_none s f place reached inside free passed = absent s f (λ p h. elim (cases_Bool (is_of f (slot_at s p))) [
  | inl here ↦
      let at = used_by (slot_at s p) f here
      in elim (cases_lt (distance (length s) (home (length s) f) p) (distance (length s) (home (length s) f) place)) [
        | inl before ↦ (passed p h before).1
        | inr behind ↦ elim
            (cases_eq (distance (length s) (home (length s) f) p) (distance (length s) (home (length s) f) place)) [
              | inl level ↦
                  let some : 1 ≤ length s = omega arith
                  in let eq : p ≡ place =
                  distance_same (length s) (home (length s) f) p place (home-lt (length s) f some) h inside level
                  in let not : is_free (slot_at s p) ≡ false = used_is (slot_at s p) f at.0 at.1
                  in absurd (both_ways _ (subst (λ (m : ℕ). is_free (slot_at s m) ≡ false) eq not) free)
              | inr apart ↦
                  let less : distance (length s) (home (length s) f) place < distance (length s) (home (length s) f) p =
                  omega arith
                  in absurd (both_ways _ (reached.way p f at.0 at.1 place inside less) free)
            ]
      ]
  | inr there ↦ there
])

-- a slot that is used is used when another is filled
pub used_still : (s : List Slot) (p : ℕ) (f : Flow) (r : Receiver) (k : ℕ) → p < length s
    → is_free (slot_at s k) ≡ false → is_free (slot_at (set s p (Used f r)) k) ≡ false
used_still s p f r k inside not = elim (cases_eq k p) [
  | inl here ↦ used_is (slot_at (set s p (Used f r)) k) f r
      (subst (λ (m : ℕ). slot_at (set s p (Used f r)) m ≡ Used f r) (sym here)
      (get_or-set_same s p (Used f r) Free inside))
  | inr there ↦ ap (λ (x : Slot). is_free x) (get_or-set_other s p k (Used f r) Free there) ∙ not
]

-- the flows stay within reach when one is put where its walk ended
pub reached_filled : (s : List Slot) (n p : ℕ) (f : Flow) (r : Receiver) → length s ≡ n → AreReached s n → p < n
    → ((k : ℕ) → k < n → distance n (home n f) k < distance n (home n f) p → is_free (slot_at s k) ≡ false)
    → AreReached (set s p (Used f r)) n
reached_filled s n p f r size reached inside passed =
    let within : p < length s = omega arith
    in record {
      way = λ q g t is k h less. elim (cases_eq q p) [
        | inl here ↦
            let at : slot_at (set s p (Used f r)) q ≡ Used f r =
            subst (λ (m : ℕ). slot_at (set s p (Used f r)) m ≡ Used f r) (sym here)
            (get_or-set_same s p (Used f r) Free within)
            in let both : Used g t ≡ Used f r = sym is ∙ at
            in let eq : g ≡ f = cc
            in let step : distance n (home n f) k < distance n (home n f) q =
            subst (λ (x : Flow). distance n (home n x) k < distance n (home n x) q) eq less
            in let nearer : distance n (home n f) k < distance n (home n f) p =
            subst (λ (m : ℕ). distance n (home n f) k < distance n (home n f) m) here step
            in used_still s p f r k within (passed k h nearer)
        | inr there ↦
            let old : slot_at s q ≡ Used g t = sym (get_or-set_other s p q (Used f r) Free there) ∙ is
            in used_still s p f r k within (reached.way q g t old k h less)
      ];
    }
