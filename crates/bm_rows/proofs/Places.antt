-- A fact on each place of a list, after an item came or went at either end.
use Rattle.std.proofs.Common.{◌≡◌, ℕ, zero, suc, ◌+◌, ◌<◌, ◌⊎◌, inl, inr, ⊎_elim, List, [], ◌∷◌, ◌++◌, length, map}
use Rattle.std.proofs.Common.{Some, slice_get, slice_index_or, All, refl, sym, ap, ◌∙◌, subst, arith}
use Rattle.std.specs.List.{remove}
use Rattle.std.proofs.lemmas.Option.{same_Some}

pub subst_two : {A B : Type 0} (P : A → B → Type 0) {a a' : A} {b b' : B} → a ≡ a' → b ≡ b' → P a b → P a' b'
subst_two P {a = a} {a' = a'} {b = b} {b' = b'} e f p = subst (λ y. P a' y) f (subst (λ x. P x b) e p)

module _ {A : Type 0} where
  pub there : (xs : List A) (i : ℕ) → i < length xs → (x : A) × (slice_get xs i ≡ Some x)
  there [] i lt = absurd (omega arith)
  there (x ∷ xs) zero lt = (x, refl)
  there (x ∷ xs) (suc i) lt = there xs i (omega arith)

  pub last_cases : (xs : List A) (x y : A) (i : ℕ) → slice_get (xs ++ x ∷ []) i ≡ Some y
      → (slice_get xs i ≡ Some y) ⊎ ((i ≡ length xs) × (x ≡ y))
  last_cases [] x y zero at = inr (refl, same_Some x y at)
  last_cases [] x y (suc i) at = absurd (cc)
  last_cases (z ∷ xs) x y zero at = inl at
  last_cases (z ∷ xs) x y (suc i) at =
      ⊎_elim (λ a. inl a) (λ p. inr (ap suc p.0, p.1)) (last_cases xs x y i at)

  -- one more at the end
  pub each_more : (P : ℕ → A → Type 0) (xs xs' : List A) (x : A) → xs' ≡ xs ++ x ∷ []
      → ((i : ℕ) (y : A) → slice_get xs i ≡ Some y → P i y) → P (length xs) x
      → (i : ℕ) (y : A) → slice_get xs' i ≡ Some y → P i y
  each_more P xs xs' x e old new i y at = ⊎_elim
      (λ a. old i y a)
      (λ p. subst_two P (sym p.0) p.1 new)
      (last_cases xs x y i (ap (λ (l : List A). slice_get l i) (sym e) ∙ at))

  front_one : (P : ℕ → A → Type 0) (m : ℕ) (x : A) (xs : List A) → P m x
      → ((k : ℕ) (y : A) → slice_get xs k ≡ Some y → P (suc m + k) y)
      → (k : ℕ) (y : A) → slice_get (x ∷ xs) k ≡ Some y → P (m + k) y
  front_one P m x xs first rest zero y at =
      let z : m ≡ m + 0 = omega arith in
      subst (λ (k : ℕ). P k y) z (subst (P m) (same_Some x y at) first)
  front_one P m x xs first rest (suc k) y at =
      let z : suc m + k ≡ m + suc k = omega arith in
      subst (λ (j : ℕ). P j y) z (rest k y at)

  -- one more at the front, where places are counted from m
  pub front_more : (P : ℕ → A → Type 0) (m : ℕ) (x : A) (xs xs' : List A) → xs' ≡ x ∷ xs → P m x
      → ((k : ℕ) (y : A) → slice_get xs k ≡ Some y → P (suc m + k) y)
      → (k : ℕ) (y : A) → slice_get xs' k ≡ Some y → P (m + k) y
  front_more P m x xs xs' e first rest k y at =
      front_one P m x xs first rest k y (ap (λ (l : List A). slice_get l k) (sym e) ∙ at)

  -- the first was removed
  pub first_removed : (xs rest : List A) (x : A) → 0 < length xs → x ≡ slice_index_or xs 0 x → rest ≡ remove xs 0
      → xs ≡ x ∷ rest
  first_removed [] rest x some first left = absurd (omega arith)
  first_removed (y ∷ xs) rest x some first left = λ i. sym first i ∷ sym left i

  pub all_tail : (P : A → Type 0) (l xs : List A) (x : A) → l ≡ x ∷ xs → All P l → All P xs
  all_tail P l xs x e all =
      let h = subst (λ (l : List A). All P l) e all in
      λ k d lt. h (suc k) d (omega arith)

module _ {R S : Type 0} (f : R → List S) where
  pub all_empty : (l : List R) → All (λ (r : R). f r ≡ []) l
      → (i : ℕ) (x : List S) → slice_get (map f l) i ≡ Some x → x ≡ []
  all_empty [] all i x at = absurd (cc)
  all_empty (r ∷ l) all zero x at = sym (same_Some (f r) x at) ∙ all 0 r (omega arith)
  all_empty (r ∷ l) all (suc i) x at = all_empty l (λ k d lt. all (suc k) d (omega arith)) i x at
