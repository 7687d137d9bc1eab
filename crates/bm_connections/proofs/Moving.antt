-- By which changes buckets moved.
use Rattle.std.proofs.Common.{◌≡◌, ℕ, zero, suc, ◌<◌, ◌≤◌, true, false, inl, inr, arith, leb}
use Rattle.std.proofs.Common.{Option, Some, None, refl, ap, ◌==◌, if◌then◌else◌, subst}
use Rattle.std.proofs.lemmas.Bool.{cases_Bool, cases_lt, le-leb}
use Rattle.std.proofs.lemmas.Bool.Decides.{nat_tests}
use Rattle.std.proofs.lemmas.Option.{same_Some}
use Rattle.bm_base.specs.declared.ids.ServerId.{ServerId}
use Rattle.bm_table.specs.Planned.{Planned}
use Rattle.bm_table.specs.Tables.{moves, moves_next}
use Rattle.bm_connections.specs.Leaves.{is_at, last_leave}
use Rattle.bm_connections.specs.Needed.{nth_move}

from_zero : (v : ℕ) → leb 0 v ≡ true
from_zero v = le-leb 0 v (omega arith)

-- a change that moves the bucket, and one that doesn't
moves_goes : (plan : Planned) (b v : ℕ) → moves_next plan v b ≡ true
    → moves plan b 0 (suc v) ≡ suc (moves plan b 0 v)
moves_goes plan b v goes = let l = from_zero v in rw (l, goes) refl

moves_stays : (plan : Planned) (b v : ℕ) → moves_next plan v b ≡ false
    → moves plan b 0 (suc v) ≡ moves plan b 0 v
moves_stays plan b v stays = let l = from_zero v in rw (l, stays) refl

pub moves_within : (plan : Planned) (b v : ℕ) → moves plan b 0 v ≤ v
moves_within plan b zero = omega arith
moves_within plan b (suc v) =
    let i = moves_within plan b v
    in elim (cases_Bool (moves_next plan v b)) [
      | inl goes ↦ let e = moves_goes plan b v goes in omega (arith, i, e)
      | inr stays ↦ let e = moves_stays plan b v stays in omega (arith, i, e)
    ]

-- more changes don't move it less often
pub moves_rise : (plan : Planned) (b v u : ℕ) → v ≤ u → moves plan b 0 v ≤ moves plan b 0 u
moves_rise plan b v zero h =
    let e : v ≡ 0 = omega arith
    in let c : moves plan b 0 v ≡ moves plan b 0 0 = ap (λ x. moves plan b 0 x) e
    in omega (arith, c)
moves_rise plan b v (suc u) h =
    elim (cases_lt u v) [
      | inl last ↦
          let e : v ≡ suc u = omega arith
          in let c : moves plan b 0 v ≡ moves plan b 0 (suc u) = ap (λ x. moves plan b 0 x) e
          in omega (arith, c)
      | inr since ↦
          let i = moves_rise plan b v u since
          in elim (cases_Bool (moves_next plan u b)) [
            | inl goes ↦ let e = moves_goes plan b u goes in omega (arith, i, e)
            | inr stays ↦ let e = moves_stays plan b u stays in omega (arith, i, e)
          ]
    ]

-- the change that makes n moves of fewer is the nth
pub nth_found : (plan : Planned) (b n low v : ℕ) → low < v → moves plan b 0 low < n → n ≤ moves plan b 0 (suc low)
    → nth_move plan b n v ≡ Some low
nth_found plan b n low zero within fewer enough = absurd (omega arith)
nth_found plan b n low (suc v) within fewer enough =
    let l = from_zero v
    in elim (cases_lt low v) [
      | inl before ↦
          let rest = nth_found plan b n low v before fewer enough
          in elim (cases_Bool (moves_next plan v b)) [
            | inl goes ↦
                let r = moves_rise plan b (suc low) v before
                in let below : n < suc (moves plan b 0 v) = omega (arith, r, enough)
                in let other : (suc (moves plan b 0 v) == n) ≡ false = grind (arith, nat_tests)
                in rw (l, goes, other) rest
            | inr stays ↦ rw (l, stays) rest
          ]
      | inr last ↦
          let same : v ≡ low = omega arith
          in let c : moves plan b 0 v ≡ moves plan b 0 low = ap (λ x. moves plan b 0 x) same
          in let d : moves plan b 0 (suc v) ≡ moves plan b 0 (suc low) = ap (λ x. moves plan b 0 (suc x)) same
          in elim (cases_Bool (moves_next plan v b)) [
            | inl goes ↦
                let e = moves_goes plan b v goes
                in let is : suc (moves plan b 0 v) ≡ n = omega (arith, c, d, e, fewer, enough)
                in let this : (suc (moves plan b 0 v) == n) ≡ true = grind (arith, nat_tests)
                in rw (l, goes, this) (ap Some same)
            | inr stays ↦
                let e = moves_stays plan b v stays in absurd (omega (arith, c, d, e, fewer, enough))
          ]
    ]

-- there is no such change where the bucket moved less often
pub nth_few : (plan : Planned) (b n v : ℕ) → moves plan b 0 v < n → nth_move plan b n v ≡ None
nth_few plan b n zero few = refl
nth_few plan b n (suc v) few =
    let l = from_zero v
    in let r = moves_rise plan b v (suc v) (omega arith)
    in let rest = nth_few plan b n v (omega (arith, r, few))
    in elim (cases_Bool (moves_next plan v b)) [
      | inl goes ↦
          let e = moves_goes plan b v goes
          in let below : suc (moves plan b 0 v) < n = omega (arith, e, few)
          in let other : (suc (moves plan b 0 v) == n) ≡ false = grind (arith, nat_tests)
          in rw (l, goes, other) rest
      | inr stays ↦ rw (l, stays) rest
    ]

-- there is none by which it moved for the 0th time
pub nth_zero : (plan : Planned) (b n v : ℕ) → n ≡ 0 → nth_move plan b n v ≡ None
nth_zero plan b n zero none = refl
nth_zero plan b n (suc v) none =
    let l = from_zero v
    in let rest = nth_zero plan b n v none
    in elim (cases_Bool (moves_next plan v b)) [
      | inl goes ↦
          let other : (suc (moves plan b 0 v) == n) ≡ false = grind (arith, nat_tests)
          in rw (l, goes, other) rest
      | inr stays ↦ rw (l, stays) rest
    ]

-- LEAVES

-- the last move is the last by which the bucket left a server, or such a one comes before it
pub leaves_by : (plan : Planned) (b n v u : ℕ) (s : ServerId) → n ≡ moves plan b 0 v → nth_move plan b n v ≡ Some u
    → last_leave plan b s v ≡ (if is_at plan b s u then Some u else last_leave plan b s u)
leaves_by plan b n zero u s is found = absurd (cc)
leaves_by plan b n (suc v) u s is found =
    let l = from_zero v
    in elim (cases_Bool (moves_next plan v b)) [
      | inl goes ↦
          let e = moves_goes plan b v goes
          in let last : suc (moves plan b 0 v) ≡ n = omega (arith, e, is)
          in let this : (suc (moves plan b 0 v) == n) ≡ true = grind (arith, nat_tests)
          in let some : Some v ≡ Some u = rw (l, goes, this) at found
          in subst (λ x. last_leave plan b s (suc v) ≡ (if is_at plan b s x then Some x else last_leave plan b s x))
          (same_Some v u some) (rw goes refl)
      | inr stays ↦
          let e = moves_stays plan b v stays
          in let before : nth_move plan b n v ≡ Some u = rw (l, stays) at found
          in rw stays (leaves_by plan b n v u s (omega (arith, e, is)) before)
    ]

-- a bucket that didn't move left no server
pub leaves_none : (plan : Planned) (b n v : ℕ) (s : ServerId) → n ≡ moves plan b 0 v → nth_move plan b n v ≡ None
    → last_leave plan b s v ≡ None
leaves_none plan b n zero s is found = refl
leaves_none plan b n (suc v) s is found =
    let l = from_zero v
    in elim (cases_Bool (moves_next plan v b)) [
      | inl goes ↦
          let e = moves_goes plan b v goes
          in let last : suc (moves plan b 0 v) ≡ n = omega (arith, e, is)
          in let this : (suc (moves plan b 0 v) == n) ≡ true = grind (arith, nat_tests)
          in let some : Some v ≡ None = rw (l, goes, this) at found
          in absurd (cc)
      | inr stays ↦
          let e = moves_stays plan b v stays
          in let before : nth_move plan b n v ≡ None = rw (l, stays) at found
          in rw stays (leaves_none plan b n v s (omega (arith, e, is)) before)
    ]
