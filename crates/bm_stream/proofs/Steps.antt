-- What a step of a stream does to what is kept.
use Rattle.std.proofs.Common.{◌≡◌, ℕ, suc, ◌+◌, ◌<◌, ◌≤◌, ◌⊎◌, false, true, inl, inr, List, [], ◌∷◌, ◌++◌, Option, Some, None}
use Rattle.std.proofs.Common.{refl, sym, ap, subst, ◌∙◌, arith}
use Rattle.std.proofs.lemmas.Bool.{cases_Bool}
use Rattle.std.proofs.lemmas.Bool.Decides.{nat_tests}
use Rattle.std.proofs.lemmas.List.Sums.{fold-append}
use Rattle.std.specs.List.{fold}
use Rattle.std.specs.Prelude.{is_some, IfSome, nat_lt}
use Rattle.bm_hash.specs.Buckets.{fnv_1a, fnv_step}
use Rattle.bm_stream.specs.declared.stream.Stream.{Stream}
use Rattle.bm_stream.specs.Pieces.{Piece, Kept, kept, stream, is_fin, octets_below, with_octet, window, is_in_window}
use Rattle.bm_stream.specs.Pieces.{first_of_two, octet_at, octet_after, fin_after, length_after}
use Rattle.bm_stream.specs.Laws.{IsLength}
use Rattle.bm_stream.specs.Views.{HasTaken}
use Rattle.bm_stream.specs.Inside.Keeping.{IsKeeping, IsAtEnd}
use Rattle.bm_stream.specs.Inside.Positions.{AreBelow}
use Rattle.bm_stream.specs.Rings.{held_at}
use Rattle.bm_stream.proofs.Cells.{held_none}
use Rattle.bm_stream.proofs.Lengths.{length_is, kept_stays, still_some, none_behind, fin_behind, same_below}

-- one octet more is hashed
hash_more : (octets : List ℕ) (x : ℕ) → fnv_1a (octets ++ x ∷ []) ≡ fold fnv_step (fnv_1a octets) (x ∷ [])
unfolding fnv_1a
hash_more octets x = fold-append fnv_step _ octets (x ∷ [])

past_fin : (fin : Option ℕ) (n : ℕ) → IfSome fin (λ f. n ≤ f) → is_fin fin n ≡ false → IfSome fin (λ f. suc n ≤ f)
past_fin None n before differs = tt
past_fin (Some f) n before differs = grind (arith, nat_tests)

some_is : (a : Option ℕ) (x : ℕ) → a ≡ Some x → is_some a ≡ true
some_is a x is = rw is refl

found_below : (octet : ℕ → Option ℕ) (end n x : ℕ) → ((q : ℕ) → end ≤ q → octet q ≡ None) → octet n ≡ Some x → n < end
found_below octet end n x within is = elim (cases_Bool (nat_lt n end)) [
  | inl low ↦ grind (arith, nat_tests)
  | inr high ↦ absurd (differ (octet n) x (within n (grind (arith, nat_tests))) is)
] where
  differ : (o : Option ℕ) (y : ℕ) → o ≡ None → o ≡ Some y → ⊥
  differ o y a b = absurd (cc)

below_or_at : (q n : ℕ) → q < suc n → (q < n) ⊎ (q ≡ n)
below_or_at q n low = elim (cases_Bool (nat_lt q n)) [
  | inl below ↦ inl (grind (arith, nat_tests))
  | inr at ↦ inr (grind (arith, nat_tests))
]

-- the length grows by an octet that is kept
pub kept_on : (octet : ℕ → Option ℕ) (end x : ℕ) (s t : Stream) → IsKeeping octet end s
    → AreBelow (s.base + s.length + 65535) s.ring.cells.items
    → held_at s.ring.cells.items (s.base + s.length) ≡ Some x → is_fin s.fin s.length ≡ false
    → t.ring.cells.items ≡ s.ring.cells.items → t.base ≡ s.base → t.fin ≡ s.fin → t.length ≡ suc s.length
    → t.hash ≡ fold fnv_step s.hash (x ∷ []) → IsKeeping octet end t
kept_on octet end x s t keeping inside found unfinished ring base fin more hash =
    let here : octet s.length ≡ Some x = sym (keeping.octets s.length (omega arith) (omega arith)) ∙ found in
    let lower : s.length < end = found_below octet end s.length x keeping.within here in
    let longer : octets_below octet (suc s.length) ≡ octets_below octet s.length ++ x ∷ [] =
    ap (with_octet (octets_below octet s.length)) here
    in
    record {
      below = λ q low. elim (below_or_at q s.length (omega (arith, low, more))) [
        | inl before ↦ keeping.below q before
        | inr at ↦ some_is (octet q) x (ap octet at ∙ here)
      ];
      upto = omega (arith, lower, more);
      near = omega (arith, keeping.near, more);
      fin = subst (λ (o : Option ℕ). IfSome o (λ f. t.length ≤ f)) (sym fin)
          (subst (λ (n : ℕ). IfSome s.fin (λ f. n ≤ f)) (sym more) (past_fin s.fin s.length keeping.fin unfinished));
      hash = hash ∙ ap (λ (h : ℕ). fold fnv_step h (x ∷ [])) keeping.hash
          ∙ sym (hash_more (octets_below octet s.length) x) ∙ ap fnv_1a (sym longer)
          ∙ ap (λ (n : ℕ). fnv_1a (octets_below octet n)) (sym more);
      octets = λ q behind near. rw (ring, base)
          (elim (below_or_at q (s.length + window) (omega (arith, near, more))) [
            | inl inner ↦ keeping.octets q (omega (arith, behind, more)) inner
            | inr at ↦
                held_none s.ring.cells.items (s.base + s.length + 65535) (s.base + q) inside (omega (arith, at))
                ∙ sym (keeping.within q (omega (arith, at, keeping.near)))
          ]);
      within = keeping.within;
    }

-- A PIECE IS TAKEN

-- in the window the piece's octets are kept where there are none
kept_within : (p : Piece) (k : Kept) (q : ℕ) → k.length ≤ q → q < k.length + window
    → first_of_two (k.octet q) (octet_at p.place p.octets q) ≡ octet_after p k q
kept_within p k q behind near =
    let inside : is_in_window k.length q ≡ true = grind (arith, nat_tests) in rw inside refl

-- its octets and its FIN are kept, and the length is still that before it
pub keeping_piece : (p : Piece) (k : Kept) (s m : Stream) → IsLength k → s.length ≡ k.length
    → s.hash ≡ fnv_1a (octets_below k.octet k.length)
    → ((q : ℕ) → s.length ≤ q → q < s.length + window → held_at s.ring.cells.items (s.base + q) ≡ k.octet q)
    → m.base ≡ s.base → m.length ≡ s.length → m.hash ≡ s.hash → m.fin ≡ fin_after p k
    → ((q : ℕ) → s.length ≤ q → q < s.length + window → held_at m.ring.cells.items (s.base + q)
    ≡ first_of_two (held_at s.ring.cells.items (s.base + q)) (octet_at p.place p.octets q))
    → IsKeeping (octet_after p k) (k.length + window) m
keeping_piece p k s m is upto hash octets same_base same_length same_hash fin now =
    let at : m.length ≡ k.length = same_length ∙ upto in
    record {
      below = λ q low. still_some p k q (is.below q (omega (arith, low, at)));
      upto = omega (arith, at);
      near = omega (arith, at);
      fin = subst (λ (o : Option ℕ). IfSome o (λ f. m.length ≤ f)) (sym fin)
          (subst (λ (n : ℕ). IfSome (fin_after p k) (λ f. n ≤ f)) (sym at) (fin_behind p k is));
      hash = same_hash ∙ hash
          ∙ ap fnv_1a (same_below k.octet (octet_after p k) k.length (λ q low. sym (kept_stays p k q (is.below q low))))
          ∙ ap (λ (n : ℕ). fnv_1a (octets_below (octet_after p k) n)) (sym at);
      octets = λ q behind near. rw same_base
          (now q (omega (arith, behind, same_length)) (omega (arith, near, same_length))
          ∙ ap (λ (o : Option ℕ). first_of_two o (octet_at p.place p.octets q))
          (octets q (omega (arith, behind, same_length)) (omega (arith, near, same_length)))
          ∙ kept_within p k q (omega (arith, behind, at)) (omega (arith, near, at)));
      within = none_behind p k is;
    }

-- the length has grown as far as it goes
pub piece_taken : (p : Piece) (pieces : List Piece) (t : Stream)
    → IsKeeping (octet_after p (kept pieces)) ((kept pieces).length + window) t
    → IsAtEnd (octet_after p (kept pieces)) t → t.fin ≡ fin_after p (kept pieces) → HasTaken (p ∷ pieces) t
unfolding kept stream
piece_taken p pieces t keeping end fin =
    let k : Kept = kept pieces in
    let at : length_after p k ≡ t.length =
    length_is p k t.length keeping.upto keeping.below
    (subst (λ (o : Option ℕ). IfSome o (λ f. t.length ≤ f)) fin keeping.fin)
    (subst (λ (o : Option ℕ). (octet_after p k t.length ≡ None) ⊎ (o ≡ Some t.length)) fin end)
    in
    record {
      length = sym at;
      fin = fin;
      hash = keeping.hash ∙ ap (λ (n : ℕ). fnv_1a (octets_below (octet_after p k) n)) (sym at);
      octets = keeping.octets;
    }
