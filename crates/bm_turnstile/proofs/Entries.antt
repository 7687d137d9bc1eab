-- The entries under a number, as the book grows.
use Rattle.std.proofs.Common.{◌≡◌, ◌≢◌, ℕ, ◌+◌, ◌<◌, ◌≤◌, Bool, false, cond, List, [], ◌∷◌, ◌++◌, length}
use Rattle.std.proofs.Common.{length-append, refl, sym, ap, ◌∙◌, subst, ⊎_elim, eq-eqb, ne_eqb, append_assoc}
use Rattle.std.proofs.Common.{append-nil, arith}
use mathlib.Core.Logic.{dite}
use native.Mathlib.Decide.{ℕ_discrete}
use Rattle.bm_turnstile.specs.declared.view.Old.{Old}
use Rattle.bm_turnstile.specs.Seen.{own, Covers, AllBelow}
use Rattle.bm_turnstile.specs.Inside.Rule.{Grows, OldsFit}

module _ {E : Type 0} (seat_of : E → ℕ) where
  pub own-append : (n : ℕ) (xs ys : List E) → own seat_of n (xs ++ ys) ≡ own seat_of n xs ++ own seat_of n ys
  own-append n [] ys = refl
  own-append n (x ∷ xs) ys = dite (ℕ_discrete (seat_of x) n)
      (λ e. rw (eq-eqb (seat_of x) n e) (ap (λ l. x ∷ l) (own-append n xs ys)))
      (λ ne. rw (ne_eqb (seat_of x) n ne) (own-append n xs ys))

  -- no entry is under a number that all are below
  pub own_none : (n : ℕ) (log : List E) → AllBelow seat_of n log → own seat_of n log ≡ []
  own_none n [] h = refl
  own_none n (e ∷ es) h =
      let a = h.0 in
      let other = ne_eqb (seat_of e) n (λ q. omega arith) in
      ap (λ b. cond b (e ∷ own seat_of n es) (own seat_of n es)) other ∙ own_none n es h.1

  -- BELOW

  pub below_wider : (n : ℕ) (log : List E) → AllBelow seat_of n log → AllBelow seat_of (n + 1) log
  below_wider n [] h = tt
  below_wider n (e ∷ es) h = let a = h.0 in (omega arith, below_wider n es h.1)

  below_more : (n : ℕ) (log : List E) (e : E) → seat_of e < n → AllBelow seat_of n log
      → AllBelow seat_of n (log ++ e ∷ [])
  below_more n [] e h a = (h, tt)
  below_more n (x ∷ xs) e h a = (a.0, below_more n xs e h a.1)

  pub below_grows : (id n : ℕ) (log log' : List E) → id < n → Grows seat_of id log log' → AllBelow seat_of n log
      → AllBelow seat_of n log'
  below_grows id n log log' h g a = ⊎_elim
      (λ (e : log' ≡ log). subst (AllBelow seat_of n) (sym e) a)
      (λ (t : (e : E) × (log' ≡ log ++ e ∷ []) × (seat_of e ≡ id)).
      subst (AllBelow seat_of n) (sym t.1) (below_more n log t.0 (let b = t.2 in omega arith) a))
      g

  pub length_grows : (id : ℕ) (log log' : List E) → Grows seat_of id log log' → length log' ≤ length log + 1
  length_grows id log log' g = ⊎_elim
      (λ (e : log' ≡ log). let a = ap length e in omega arith)
      (λ (t : (e : E) × (log' ≡ log ++ e ∷ []) × (seat_of e ≡ id)).
      let a = ap length t.1 in omega (arith, length-append log (t.0 ∷ [])))
      g

  -- COVERED

  pub covers_self : (n : ℕ) (log : List E) → Covers seat_of n log log
  covers_self n log = ([], sym (append-nil log), refl)

  pub own_covered : (n : ℕ) (seen log : List E) → Covers seat_of n seen log → own seat_of n log ≡ own seat_of n seen
  own_covered n seen log c =
      ap (own seat_of n) c.1 ∙ (own-append n seen c.0
      ∙ (ap (λ (l : List E). own seat_of n seen ++ l) c.2 ∙ append-nil (own seat_of n seen)))

  -- an entry under another number
  pub covers_more : (n : ℕ) (seen log : List E) (e : E) → seat_of e ≢ n → Covers seat_of n seen log
      → Covers seat_of n seen (log ++ e ∷ [])
  covers_more n seen log e ne c =
      let none : own seat_of n (e ∷ []) ≡ [] = ap (λ b. cond b (e ∷ []) []) (ne_eqb (seat_of e) n ne) in (
        c.0 ++ e ∷ [],
        ap (λ l. l ++ e ∷ []) c.1 ∙ append_assoc seen c.0 (e ∷ []),
        own-append n c.0 (e ∷ []) ∙ (ap (λ l. l ++ own seat_of n (e ∷ [])) c.2 ∙ none),
      )

  pub covers_grows : (id n : ℕ) (seen log log' : List E) → n ≢ id → Grows seat_of id log log'
      → Covers seat_of n seen log → Covers seat_of n seen log'
  covers_grows id n seen log log' ne g c = ⊎_elim
      (λ (e : log' ≡ log). subst (Covers seat_of n seen) (sym e) c)
      (λ (t : (e : E) × (log' ≡ log ++ e ∷ []) × (seat_of e ≡ id)).
      subst (Covers seat_of n seen) (sym t.1) (covers_more n seen log t.0 (λ q. ne (sym q ∙ t.2)) c))
      g

  pub olds_grow : (id : ℕ) (dead : ℕ → Bool) (log log' : List E) (os : List (Old E)) → dead id ≡ false
      → Grows seat_of id log log' → OldsFit seat_of dead log os → OldsFit seat_of dead log' os
  olds_grow id dead log log' [] d g h = tt
  olds_grow id dead log log' (o ∷ os) d g h =
      let other : o.number ≢ id =
      λ e. let a : dead o.number ≡ dead id = ap dead e in let b = h.0 in absurd (cc) in
      (h.0, covers_grows id o.number o.seen log log' other g h.1, olds_grow id dead log log' os d g h.2)
