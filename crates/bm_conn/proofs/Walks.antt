-- The walk from a flow's home.
use Rattle.std.proofs.Common.{◌≡◌, ℕ, ◌+◌, ◌<◌, ◌≤◌, true, false, List, length, inl, inr, sym, ap, subst, ◌∙◌, arith}
use Rattle.std.proofs.lemmas.Bool.{cases_eq, both_ways}
use Rattle.bm_base.specs.declared.flow.Flow.{Flow}
use Rattle.bm_conn.specs.declared.slot.Slot.{Slot}
use Rattle.bm_conn.specs.Slots.{slot_at, is_free, is_of, distance, home}
use Rattle.bm_conn.specs.Inside.Slots.{IsWalked, after}
use Rattle.bm_conn.proofs.Places.{distance-lt, distance_none, distance_same, after-lt, distance-after, home-lt}

pub walked_none : (s : List Slot) (f : Flow) → 1 ≤ length s → IsWalked s f (home (length s) f) 0
walked_none s f some = record {
  within = home-lt (length s) f some;
  gone = λ h. distance_none (length s) (home (length s) f);
  passed = λ k h less. absurd (omega arith);
}

pub walked_more : (s : List Slot) (f : Flow) (place steps : ℕ) → IsWalked s f place steps → steps < length s
    → is_free (slot_at s place) ≡ false → is_of f (slot_at s place) ≡ false
    → IsWalked s f (after (length s) place) (steps + 1)
walked_more s f place steps walked more used other =
    let some : 1 ≤ length s = omega arith
    in let at : home (length s) f < length s = home-lt (length s) f some
    in let inside : place < length s = walked.within
    in let far : distance (length s) (home (length s) f) place ≡ steps = walked.gone more
    in record {
      within = after-lt (length s) place inside;
      gone = λ h. let room : distance (length s) (home (length s) f) place + 1 < length s =
          omega arith in distance-after (length s) (home (length s) f) place at inside room ∙ ap (λ (n : ℕ). n + 1) far;
      passed = λ k h less. elim (cases_eq (distance (length s) (home (length s) f) k) steps) [
        | inl here ↦
            let eq : place ≡ k = distance_same (length s) (home (length s) f) place k at inside h (far ∙ sym here)
            in let P : ℕ → Type 0 = λ (m : ℕ). (is_free (slot_at s m) ≡ false) × (is_of f (slot_at s m) ≡ false)
            in subst P eq (used, other)
        | inr before ↦ walked.passed k h (omega arith)
      ];
    }

-- what was passed, where the walk ends
pub walked_stop : (s : List Slot) (f : Flow) (place steps : ℕ) → IsWalked s f place steps → steps < length s
    → (k : ℕ) → k < length s → distance (length s) (home (length s) f) k < distance (length s) (home (length s) f) place
    → (is_free (slot_at s k) ≡ false) × (is_of f (slot_at s k) ≡ false)
walked_stop s f place steps walked more k h less =
    let far : distance (length s) (home (length s) f) place ≡ steps = walked.gone more
    in walked.passed k h (omega arith)

-- it doesn't go all the way round
pub walked_all : (s : List Slot) (f : Flow) (place steps z : ℕ) → IsWalked s f place steps → length s ≤ steps
    → z < length s → is_free (slot_at s z) ≡ true → ⊥
walked_all s f place steps z walked all inside free =
    let some : 1 ≤ length s = omega arith
    in let less : distance (length s) (home (length s) f) z < length s =
    distance-lt (length s) (home (length s) f) z (home-lt (length s) f some) inside
    in let used = walked.passed z inside (omega arith)
    in both_ways _ used.0 free
