-- The last column of rows that are cut at one place.
use Rattle.std.proofs.Common.{◌≡◌, ℕ, zero, suc, ◌<◌, List, [], ◌∷◌, ◌++◌, length, map, take, Some, slice_get, All}
use Rattle.std.proofs.Common.{refl, sym, ap, ◌∙◌, length-append, arith}
use Rattle.std.proofs.lemmas.Option.{same_Some}
use Rattle.bm_rows.specs.Rows.{glued}
use Rattle.bm_rows.proofs.Places.{there}

module _ {A : Type 0} where
  head_or : A → List A → A
  head_or d [] = d
  head_or d (x ∷ xs) = x

  tail : List A → List A
  tail [] = []
  tail (x ∷ xs) = xs

  pub heads : (x y : A) (xs ys : List A) → x ∷ xs ≡ y ∷ ys → x ≡ y
  unfolding head_or
  heads x y xs ys e = ap (head_or x) e

  pub tails : (x y : A) (xs ys : List A) → x ∷ xs ≡ y ∷ ys → xs ≡ ys
  unfolding tail
  tails x y xs ys e = ap tail e

  -- both lists without their last items, and these
  pub lasts : (xs ys : List A) (x y : A) → xs ++ x ∷ [] ≡ ys ++ y ∷ [] → (xs ≡ ys) × (x ≡ y)
  lasts [] [] x y e = (refl, heads x y [] [] e)
  lasts [] (b ∷ ys) x y e =
      let l = ap (λ (l : List A). length l) e in
      absurd (omega (arith, l, length-append ys (y ∷ [])))
  lasts (a ∷ xs) [] x y e =
      let l = ap (λ (l : List A). length l) e in
      absurd (omega (arith, l, length-append xs (x ∷ [])))
  lasts (a ∷ xs) (b ∷ ys) x y e =
      let h = heads a b (xs ++ x ∷ []) (ys ++ y ∷ []) e in
      let t = lasts xs ys x y (tails a b (xs ++ x ∷ []) (ys ++ y ∷ []) e) in
      ((λ i. h i ∷ t.0 i), t.1)

  pub take_one : (xs : List A) (m : ℕ) (x : A) → slice_get xs m ≡ Some x → take (suc m) xs ≡ take m xs ++ x ∷ []
  take_one [] m x at = absurd (cc)
  take_one (y ∷ xs) zero x at = ap (λ z. z ∷ []) (same_Some y x at)
  take_one (y ∷ xs) (suc m) x at = ap (λ l. y ∷ l) (take_one xs m x at)

  pub take_all : (xs : List A) → take (length xs) xs ≡ xs
  take_all [] = refl
  take_all (x ∷ xs) = ap (λ l. x ∷ l) (take_all xs)

  pub take_rows : (n : ℕ) (xs : List (List A))
      → ((i : ℕ) (x : List A) → slice_get xs i ≡ Some x → length x ≡ n) → map (take n) xs ≡ xs
  take_rows n [] long = refl
  take_rows n (x ∷ xs) long =
      let here : take n x ≡ x = ap (λ (k : ℕ). take k x) (sym (long 0 x refl)) ∙ take_all x in
      λ i. here i ∷ take_rows n xs (λ k y at. long (suc k) y at) i

module _ {A : Type 0} where
  full_row : (m : ℕ) (x : List A) → m < length x → 0 < length (take (suc m) x)
  full_row m [] lt = absurd (omega arith)
  full_row m (y ∷ x) lt = omega arith

  pub full_rows : {R : Type 0} (f : R → List A) (rows : List R) (xs : List (List A)) (m : ℕ)
      → map f rows ≡ map (take (suc m)) xs → ((i : ℕ) (x : List A) → slice_get xs i ≡ Some x → m < length x)
      → All (λ (r : R). 0 < length (f r)) rows
  full_rows f [] xs m e long k d lt = absurd (omega arith)
  full_rows f (r ∷ rows) [] m e long k d lt = absurd (cc)
  full_rows f (r ∷ rows) (x ∷ xs) m e long zero d lt =
      let h = full_row m x (long 0 x refl) in
      let l = ap (λ (l : List A). length l) (heads (f r) (take (suc m) x) (map f rows) (map (take (suc m)) xs) e) in
      omega (arith, h, l)
  full_rows f (r ∷ rows) (x ∷ xs) m e long (suc k) d lt =
      let rest = tails (f r) (take (suc m) x) (map f rows) (map (take (suc m)) xs) e in
      full_rows f rows xs m rest (λ i y at. long (suc i) y at) k d (omega arith)

module _ {S : Type 0} where
  -- the item i of the last column stands at the place m of the row i
  pub record IsLast (xs : List (List S)) (m i : ℕ) (s : S) : Type 0 where
    pub row : List S
    pub row_at : slice_get xs i ≡ Some row
    pub item_at : slice_get row m ≡ Some s

  last_at : (x : List S) (xs : List (List S)) (s : S) (ss : List S) (m : ℕ) → slice_get x m ≡ Some s
      → ((i : ℕ) (s : S) → slice_get ss i ≡ Some s → IsLast xs m i s)
      → (i : ℕ) (q : S) → slice_get (s ∷ ss) i ≡ Some q → IsLast (x ∷ xs) m i q
  last_at x xs s ss m here rest zero q at = record { row = x; row_at = refl; item_at = here ∙ at }
  last_at x xs s ss m here rest (suc i) q at =
      let r = rest i q at in
      record { row = r.row; row_at = r.row_at; item_at = r.item_at }

  -- rows that are cut after the place m, and their last column
  pub rows_left : (rs : List (List S)) (ss : List S) (xs : List (List S)) (m : ℕ) → length rs ≡ length xs
      → length ss ≡ length xs → ((i : ℕ) (x : List S) → slice_get xs i ≡ Some x → m < length x)
      → glued rs ss ≡ map (take (suc m)) xs
      → (rs ≡ map (take m) xs) × ((i : ℕ) (s : S) → slice_get ss i ≡ Some s → IsLast xs m i s)
  rows_left [] [] [] m a b long e = (refl, λ i s at. absurd (cc))
  rows_left [] (s ∷ ss) [] m a b long e = absurd (omega arith)
  rows_left [] ss (x ∷ xs) m a b long e = absurd (omega arith)
  rows_left (r ∷ rs) ss [] m a b long e = absurd (omega arith)
  rows_left (r ∷ rs) [] (x ∷ xs) m a b long e = absurd (omega arith)
  rows_left (r ∷ rs) (s ∷ ss) (x ∷ xs) m a b long e =
      let y = there x m (long 0 x refl) in
      let h : r ++ s ∷ [] ≡ take m x ++ y.0 ∷ [] =
      heads (r ++ s ∷ []) (take (suc m) x) (glued rs ss) (map (take (suc m)) xs) e ∙ take_one x m y.0 y.1 in
      let t : glued rs ss ≡ map (take (suc m)) xs =
      tails (r ++ s ∷ []) (take (suc m) x) (glued rs ss) (map (take (suc m)) xs) e in
      let p = lasts r (take m x) s y.0 h in
      let rest = rows_left rs ss xs m (omega arith) (omega arith) (λ i x at. long (suc i) x at) t in
      ((λ i. p.0 i ∷ rest.0 i), λ i q at. last_at x xs s ss m (y.1 ∙ ap Some (sym p.1)) rest.1 i q at)
