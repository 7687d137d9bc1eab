-- Rows with a column at their ends, by place.
use Rattle.std.proofs.Common.{◌≡◌, ℕ, zero, suc, ◌+◌, ◌<◌, ◌≤◌, List, [], ◌∷◌, ◌++◌, length, map, take, drop, get_or, set}
use Rattle.std.proofs.Common.{Some, slice_get, refl, sym, ap, ◌∙◌, add-one, arith, append-nil}
use Rattle.std.proofs.Math.ListN.{get_or-map, drop_of_length-le}
use Rattle.std.proofs.lemmas.Option.{same_Some}
use Rattle.std.proofs.lemmas.List.{length-map, map-set, take_all}
use Rattle.bm_rows.specs.Rows.{glued}
use Rattle.bm_rows.proofs.Lasts.{tails}

-- what is lent of a vector
pub lent : {R : Type 0} (n : ℕ) (now old : List R) → n ≡ length old → length now ≡ length old
    → take n (now ++ drop (length now) old) ≡ now
lent n now old a b =
    ap (λ l. take n (now ++ l)) (drop_of_length-le old (omega (arith, b)))
    ∙ (ap (take n) (append-nil now) ∙ take_all n now (omega (arith, a, b)))

module _ {S : Type 0} where
  pub length-glued : (rs : List (List S)) (ss : List S) → length rs ≡ length ss → length (glued rs ss) ≡ length rs
  length-glued [] ss e = refl
  length-glued (r ∷ rs) [] e = absurd (omega arith)
  length-glued (r ∷ rs) (s ∷ ss) e = ap suc (length-glued rs ss (omega arith))

  -- the row at a place is one of the old with its item
  pub record HasItem (rs : List (List S)) (ss : List S) (i : ℕ) (x : List S) : Type 0 where
    pub row : List S
    pub item : S
    pub row_at : slice_get rs i ≡ Some row
    pub item_at : slice_get ss i ≡ Some item
    pub whole : x ≡ row ++ item ∷ []

  pub glued_at : (rs : List (List S)) (ss : List S) (i : ℕ) (x : List S)
      → slice_get (glued rs ss) i ≡ Some x → HasItem rs ss i x
  glued_at [] ss i x at = absurd (cc)
  glued_at (r ∷ rs) [] i x at = absurd (cc)
  glued_at (r ∷ rs) (s ∷ ss) zero x at = record {
    row = r;
    item = s;
    row_at = refl;
    item_at = refl;
    whole = sym (same_Some (r ++ s ∷ []) x at);
  }
  glued_at (r ∷ rs) (s ∷ ss) (suc i) x at =
      let e = glued_at rs ss i x at in
      record { row = e.row; item = e.item; row_at = e.row_at; item_at = e.item_at; whole = e.whole }

  -- the first i rows have their items of the column
  abbrev pub part : ℕ → List (List S) → List S → List (List S)
  part i rs ss = glued (take i rs) ss ++ drop i rs

  pub part_all : (i : ℕ) (rs : List (List S)) (ss : List S) → length rs ≤ i → part i rs ss ≡ glued rs ss
  part_all i rs ss h =
      (λ j. glued (take_all i rs h j) ss ++ drop_of_length-le rs h j) ∙ append-nil (glued rs ss)

  drop_next : (i : ℕ) (ss rest : List S) (s : S) → drop i ss ≡ s ∷ rest → drop (suc i) ss ≡ rest
  drop_next zero [] rest s at = absurd (cc)
  drop_next (suc i) [] rest s at = absurd (cc)
  drop_next zero (x ∷ ss) rest s at = tails x s ss rest at
  drop_next (suc i) (x ∷ ss) rest s at = drop_next i ss rest s at

  pub drop_one : (i : ℕ) (ss rest : List S) (s : S) → drop i ss ≡ s ∷ rest → drop (i + 1) ss ≡ rest
  drop_one i ss rest s at = ap (λ n. drop n ss) (add-one i) ∙ drop_next i ss rest s at

  -- one row more has its item
  row_more : (i : ℕ) (rs : List (List S)) (ss rest : List S) (s : S) (d : List S) → i < length rs
      → drop i ss ≡ s ∷ rest
      → set (part i rs ss) i (get_or (part i rs ss) i d ++ s ∷ []) ≡ part (suc i) rs ss
  row_more i [] ss rest s d lt at = absurd (omega arith)
  row_more zero (r ∷ rs) [] rest s d lt at = absurd (cc)
  row_more zero (r ∷ rs) (x ∷ ss) rest s d lt at =
      let e : x ≡ s = same_Some x s (ap (λ (l : List S). slice_get l 0) at) in
      λ j. (r ++ sym e j ∷ []) ∷ rs
  row_more (suc i) (r ∷ rs) [] rest s d lt at = absurd (cc)
  row_more (suc i) (r ∷ rs) (x ∷ ss) rest s d lt at =
      ap (λ l. (r ++ x ∷ []) ∷ l) (row_more i rs ss rest s d (omega arith) at)

  -- one row more has lost its item
  row_less : (i : ℕ) (rs : List (List S)) (ss : List S) (s : S) (r d : List S) → i < length rs
      → length ss ≡ i → get_or rs i d ≡ r ++ s ∷ [] → part (suc i) (set rs i r) (ss ++ s ∷ []) ≡ part i rs ss
  row_less i [] ss s r d lt long at = absurd (omega arith)
  row_less zero (q ∷ rs) [] s r d lt long at = ap (λ l. l ∷ rs) (sym at)
  row_less zero (q ∷ rs) (x ∷ ss) s r d lt long at = absurd (omega arith)
  row_less (suc i) (q ∷ rs) [] s r d lt long at = absurd (omega arith)
  row_less (suc i) (q ∷ rs) (x ∷ ss) s r d lt long at =
      ap (λ l. (q ++ x ∷ []) ∷ l) (row_less i rs ss s r d (omega arith) (omega arith) at)

  pub rows_more : {R : Type 0} (f : R → List S) (i : ℕ) (now : List R) (rs : List (List S)) (ss rest : List S) (s : S)
      (row d : R) → i < length rs → drop i ss ≡ s ∷ rest → f row ≡ f (get_or now i d) ++ s ∷ []
      → map f now ≡ part i rs ss → map f (set now i row) ≡ part (i + 1) rs ss
  rows_more f i now rs ss rest s row d lt at longer old =
      let here : f row ≡ get_or (part i rs ss) i (f d) ++ s ∷ [] =
      longer ∙ ap (λ l. l ++ s ∷ []) (sym (get_or-map f now i d) ∙ ap (λ l. get_or l i (f d)) old) in
      map-set f now i row
      ∙ ((λ j. set (old j) i (here j))
      ∙ (row_more i rs ss rest s (f d) lt at ∙ ap (λ n. part n rs ss) (sym (add-one i))))

  pub rows_less : {R : Type 0} (f : R → List S) (i : ℕ) (now : List R) (ss ss' : List S) (s : S) (row d : R)
      → i < length now → length ss ≡ i → f (get_or now i d) ≡ f row ++ s ∷ [] → ss' ≡ ss ++ s ∷ []
      → part (i + 1) (map f (set now i row)) ss' ≡ part i (map f now) ss
  rows_less f i now ss ss' s row d lt long longer more =
      (λ j. part (add-one i j) (map-set f now i row j) (more j))
      ∙ row_less i (map f now) ss s (f row) (f d) (let l = length-map now f in omega arith) long
      (get_or-map f now i d ∙ longer)

  pub length_rows : {R : Type 0} (f : R → List S) (new old : List R) (column : List S) {n : ℕ}
      → map f new ≡ glued (map f old) column → length old ≡ n → length column ≡ n → length new ≡ n
  length_rows f new old column e a b =
      let c = ap (λ (l : List (List S)). length l) e in
      let d = length-glued (map f old) column (omega (arith, a, b, length-map old f)) in
      omega (arith, a, c, d, length-map new f, length-map old f)
