-- Counts of events are the same in either order.
use Rattle.std.proofs.Common.{◌≡◌, ℕ, ◌+◌, Bool, true, false, cond, List, [], ◌∷◌, ◌++◌, reverse, refl, sym, ap, ◌∙◌}
use Rattle.std.proofs.Common.{arith}
use Rattle.std.proofs.lemmas.List.{reverse-append}
use Rattle.std.proofs.lemmas.List.Recursion.{is_count_by}
use Rattle.std.specs.List.{count_by}
use Rattle.bm_core.specs.Accounts.{count_of}

module _ {X : Type 0} (test : X → Bool) where
  count_append : (xs ys : List X) → count_of test (xs ++ ys) ≡ count_of test xs + count_of test ys
  count_append [] ys = omega arith
  count_append (x ∷ xs) ys = let old = count_append xs ys in omega arith

  count_reverse : (xs : List X) → count_of test (reverse xs) ≡ count_of test xs
  count_reverse [] = refl
  count_reverse (x ∷ xs) =
      let turned : count_of test (reverse (x ∷ xs)) ≡ count_of test (reverse xs ++ x ∷ []) =
      ap (count_of test) (reverse-append (x ∷ []) xs)
      in let parts = count_append (reverse xs) (x ∷ [])
      in let old = count_reverse xs
      in omega arith

  one_more : (b : Bool) (n : ℕ) → cond b 1 0 + n ≡ cond b (1 + n) n
  one_more true n = refl
  one_more false n = omega arith

  pub count_turned : (xs : List X) → count_by test xs ≡ count_of test (reverse xs)
  count_turned xs =
      sym (is_count_by (count_of test) test refl (λ y ys. one_more (test y) (count_of test ys)) xs)
      ∙ sym (count_reverse xs)
