-- A copy is inserted at its place: after those due no later.
use Rattle.std.proofs.Common.{◌≡◌, ℕ, zero, suc, ◌<◌, ◌≤◌, true, false, List, [], ◌∷◌, length, drop, get_or, map, refl}
use Rattle.std.proofs.Common.{ap, ◌∙◌, arith, leb}
use Rattle.std.specs.Prelude.{nat_lt}
use Rattle.std.specs.List.{insert}
use Rattle.std.specs.List.Sorted.{IsNonDecreasingBy, IsPartitionPoint}
use Rattle.std.proofs.lemmas.Bool.{cond_both, ltb-true, ltb-false}
use Rattle.std.proofs.lemmas.Bool.Decides.{nat_tests}
use Rattle.bm_fault.specs.declared.wire.Queued.{Queued}
use Rattle.bm_fault.specs.Flying.{Flying}
use Rattle.bm_fault.specs.Views.{flying_of}
use Rattle.bm_fault.specs.Wires.{put_flying, DueRise}

-- each copy is due no earlier than the bound
due_above : (low : ℕ) (qs : List Queued) (j : ℕ) (d : Queued) → DueRise low (map flying_of qs) → j < length qs
    → low ≤ (get_or qs j d).due.0
due_above low [] j d rise short = absurd (omega arith)
due_above low (q ∷ qs) zero d rise short = rise.0
due_above low (q ∷ qs) (suc j) d rise short =
    let after = due_above q.due.0 qs j d rise.1 (omega arith) in omega (arith, rise.0, after)

pub non_decreasing : (low : ℕ) (qs : List Queued) → DueRise low (map flying_of qs) → IsNonDecreasingBy (λ q. q.due.0) qs
non_decreasing low [] rise i j d l short = absurd (omega arith)
non_decreasing low (q ∷ qs) rise zero zero d l short = omega arith
non_decreasing low (q ∷ qs) rise zero (suc j) d l short = due_above q.due.0 qs j d rise.1 (omega arith)
non_decreasing low (q ∷ qs) rise (suc i) zero d l short = absurd (omega arith)
non_decreasing low (q ∷ qs) rise (suc i) (suc j) d l short =
    non_decreasing q.due.0 qs rise.1 i j d (omega arith) (omega arith)

-- at the place between those due no later and the others, an insert is a put
inserted : (x : Queued) (qs : List Queued) (i : ℕ)
    → IsPartitionPoint (λ q. leb q.due.0 x.due.0 ≡ true) (λ q. leb q.due.0 x.due.0 ≡ false) qs i
    → map flying_of (insert qs i x) ≡ put_flying (flying_of x) (map flying_of qs)
inserted x [] zero point = refl
inserted x [] (suc i) point = refl
inserted x (q ∷ qs) zero point =
    let later : leb q.due.0 x.due.0 ≡ false = point.1 0 q (omega arith) (omega arith) in
    let is : nat_lt x.due.0 q.due.0 ≡ true = grind (arith, nat_tests) in rw is refl
inserted x (q ∷ qs) (suc i) point =
    let early : leb q.due.0 x.due.0 ≡ true = point.0 0 q (omega arith) (omega arith) in
    let is : nat_lt x.due.0 q.due.0 ≡ false = grind (arith, nat_tests) in
    rw is (ap (λ (fs : List Flying). flying_of q ∷ fs) (inserted x qs i (
      λ k d l h. point.0 (suc k) d (omega arith) (omega arith),
      λ k d l h. point.1 (suc k) d (omega arith)
          (omega arith),
    )))

pub put_at : (x : Queued) (old new : List Queued) (i : ℕ) → new ≡ insert old i x
    → IsPartitionPoint (λ q. leb q.due.0 x.due.0 ≡ true) (λ q. leb q.due.0 x.due.0 ≡ false) old i
    → map flying_of new ≡ put_flying (flying_of x) (map flying_of old)
put_at x old new i is point = ap (map flying_of) is ∙ inserted x old i point

-- the due moments go on rising
rises_put : (low : ℕ) (f : Flying) (fs : List Flying) → low ≤ f.due.0 → DueRise low fs → DueRise low (put_flying f fs)
rises_put low f [] l rise = (l, tt)
rises_put low f (x ∷ fs) l rise =
    cond_both (nat_lt f.due.0 x.due.0) _ _ (DueRise low)
    (λ is. (l, (omega (arith, ltb-true f.due.0 x.due.0 is), rise.1)))
    (λ is. (rise.0, rises_put x.due.0 f fs (ltb-false _ _ is) rise.1))

pub rising_put : (f : Flying) (old new : List Flying) → new ≡ put_flying f old → DueRise 0 old → DueRise 0 new
rising_put f old new is rise = rw is (rises_put 0 f old (omega arith) rise)

-- they rise among those after the first
pub rising_rest : (qs : List Queued) → DueRise 0 (map flying_of qs) → DueRise 0 (map flying_of (drop 1 qs))
rising_rest [] rise = tt
rising_rest (q ∷ []) rise = tt
rising_rest (q ∷ r ∷ qs) rise = (omega arith, rise.1.1)
