-- Functions that change at one place, their sums, and lists read by place.
use Rattle.std.proofs.Common.{◌≡◌, ◌≢◌, ℕ, zero, suc, ◌+◌, ◌*◌, ◌<◌, ◌≤◌, ◌⊎◌, inl, inr, cond, List, [], ◌∷◌, ◌++◌}
use Rattle.std.proofs.Common.{length, set, refl, sym, ap, ◌∙◌, subst, ⊎_elim, eq-eqb, ne_eqb, add-one, arith}
use mathlib.Core.Logic.{dite}
use mathlib.Core.Option.{some, some-injective, some-ne-none}
use native.Mathlib.Decide.{ℕ_discrete}
use lib.ListN.{get_elem?}
use Rattle.atomic_table.proofs.Lists.{at_set}
use Rattle.bm_turnstile.specs.Inside.Rule.{sum_below, updated, most}

module _ {A : Type 0} where
  pub updated_here : (f : ℕ → A) (n : ℕ) (x : A) → updated f n x n ≡ x
  updated_here f n x = ap (λ b. cond b x (f n)) (eq-eqb n n refl)

  pub updated_else : (f : ℕ → A) (n k : ℕ) (x : A) → k ≢ n → updated f n x k ≡ f k
  updated_else f n k x ne = ap (λ b. cond b x (f k)) (ne_eqb k n ne)

  pub at_inside : (l : List A) (i : ℕ) (a : A) → get_elem? l i ≡ some a → i < length l
  at_inside [] i a e = absurd (some-ne-none a (sym e))
  at_inside (x ∷ xs) zero a e = omega arith
  at_inside (x ∷ xs) (suc i) a e = let h = at_inside xs i a e in omega arith

  -- a fact on each place of a list, after a change of one place
  pub set_each : (P : ℕ → A → Type 0) (l : List A) (i : ℕ) (w : A) → P i w
      → ((j : ℕ) (v : A) → j ≢ i → get_elem? l j ≡ some v → P j v)
      → (j : ℕ) (v : A) → get_elem? (set l i w) j ≡ some v → P j v
  set_each P l i w mine others j v e = ⊎_elim
      (λ (t : (j ≡ i) × (w ≡ v)). subst (λ (x : ℕ × A). P x.0 x.1) (λ k. (sym t.0 k, t.1 k)) mine)
      (λ (t : (j ≢ i) × (get_elem? l j ≡ some v)). others j v t.0 t.1)
      (at_set l i j w v e)

module _ {A : Type 0} where
  pub at_snoc_at : (l : List A) (a b : A) (j : ℕ) → get_elem? (l ++ a ∷ []) j ≡ some b
      → (get_elem? l j ≡ some b) ⊎ ((j ≡ length l) × (a ≡ b))
  at_snoc_at [] a b zero e = inr (refl, some-injective a b e)
  at_snoc_at [] a b (suc j) e = absurd (some-ne-none b (sym e))
  at_snoc_at (x ∷ xs) a b zero e = inl e
  at_snoc_at (x ∷ xs) a b (suc j) e = ⊎_elim (λ h. inl h) (λ t. inr (ap suc t.0, t.1)) (at_snoc_at xs a b j e)

  -- a fact on each place of a list, after one more
  pub snoc_each : (P : ℕ → A → Type 0) (l : List A) (n : ℕ) (w : A) → length l ≡ n → P n w
      → ((j : ℕ) (v : A) → get_elem? l j ≡ some v → P j v)
      → (j : ℕ) (v : A) → get_elem? (l ++ w ∷ []) j ≡ some v → P j v
  snoc_each P l n w len last others j v e = ⊎_elim
      (others j v)
      (λ (t : (j ≡ length l) × (w ≡ v)). subst (λ (x : ℕ × A). P x.0 x.1) (λ k. (sym (t.0 ∙ len) k, t.1 k)) last)
      (at_snoc_at l w v j e)

pub sum_same : (n k x : ℕ) (f : ℕ → ℕ) → n ≤ k → sum_below n (updated f k x) ≡ sum_below n f
sum_same zero k x f h = refl
sum_same (suc n) k x f h =
    let a = sum_same n k x f (omega arith) in
    let b = updated_else f k n x (λ e. omega arith) in
    omega arith

pub sum_updated : (n k x : ℕ) (f : ℕ → ℕ) → k < n → sum_below n (updated f k x) + f k ≡ sum_below n f + x
sum_updated zero k x f h = absurd (omega arith)
sum_updated (suc n) k x f h = dite (ℕ_discrete n k)
    (λ e.
    let a = sum_same n k x f (omega arith) in
    let b : updated f k x n ≡ x = subst (λ (z : ℕ). updated f k x z ≡ x) (sym e) (updated_here f k x) in
    let c : f n ≡ f k = ap f e in
    omega arith)
    (λ ne.
    let a = sum_updated n k x f (omega arith) in
    let b = updated_else f k n x ne in
    omega arith)

pub sum_next : (n : ℕ) (f : ℕ → ℕ) → sum_below (n + 1) f ≡ sum_below n f + f n
sum_next n f = ap (λ (k : ℕ). sum_below k f) (add-one n)

pub sum_bound : (n : ℕ) (f : ℕ → ℕ) → ((k : ℕ) → f k ≤ most) → sum_below n f ≤ n * 4294967295
sum_bound zero f h = omega arith
sum_bound (suc n) f h = let a = sum_bound n f h in let b = h n in omega arith

-- one more turn under one number keeps the bound
pub counted_more : (f : ℕ → ℕ) (id : ℕ) → ((k : ℕ) → f k ≤ most) → f id + 1 ≤ most
    → (k : ℕ) → updated f id (f id + 1) k ≤ most
counted_more f id all few k = dite (ℕ_discrete k id)
    (λ e.
    let b : updated f id (f id + 1) k ≡ f id + 1 =
    subst (λ (z : ℕ). updated f id (f id + 1) z ≡ f id + 1) (sym e) (updated_here f id (f id + 1)) in
    omega arith)
    (λ ne.
    let b = updated_else f id k (f id + 1) ne in
    let c = all k in
    omega arith)
