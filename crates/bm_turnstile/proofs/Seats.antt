-- The seats of a turnstile, as lists.
use Rattle.std.proofs.Common.{◌≡◌, ℕ, suc, ◌+◌, ◌<◌, List, [], ◌∷◌, ◌++◌, length, map, get_or, set, Some, refl, ap, ◌∙◌}
use Rattle.std.proofs.Common.{arith}
use Rattle.bm_turnstile.specs.Sittings.{Sitting}
use Rattle.bm_turnstile.specs.Inside.Rule.{NumberedFrom, OldsCover}
use Rattle.bm_turnstile.specs.Views.{SeatsFrom, NewFrom, SeatsCover, old_of, given_of, AllIn}

pub all_front : {S : Type 0} (P : S → Type 0) (xs : List S) (x : S) → AllIn P (xs ++ x ∷ []) → AllIn P xs × P x
all_front P [] x h = (tt, h.0)
all_front P (y ∷ ys) x h = let a = all_front P ys x h.1 in ((h.0, a.0), a.1)

pub all_snoc : {S : Type 0} (P : S → Type 0) (xs : List S) (x : S) → AllIn P xs → P x → AllIn P (xs ++ x ∷ [])
all_snoc P [] x h p = (p, tt)
all_snoc P (y ∷ ys) x h p = (h.0, all_snoc P ys x h.1 p)

pub all_set : {S : Type 0} (P : S → Type 0) (xs : List S) (x : S) → AllIn P xs → P x → AllIn P (set xs 0 x)
all_set P [] x h p = tt
all_set P (y ∷ ys) x h p = (p, h.1)

pub all_head : {S : Type 0} (P : S → Type 0) (xs : List S) (d : S) → 0 < length xs → AllIn P xs → P (get_or xs 0 d)
all_head P [] d lt h = absurd (omega arith)
all_head P (y ∷ ys) d lt h = h.0

-- the last goes from one list to the head of the other
pub handed_over : {S E : Type 0} (f : S → E) (xs : List S) (x : S) (os : List E)
    → map f (xs ++ x ∷ []) ++ os ≡ map f xs ++ f x ∷ os
handed_over f [] x os = refl
handed_over f (y ∷ ys) x os = ap (λ l. f y ∷ l) (handed_over f ys x os)

module _ {X E : Type 0} where
  pub new_snoc : (about : X) (m : ℕ) (ss : List (Sitting X E)) (s : Sitting X E) → NewFrom about m ss
      → s.number ≡ m + length ss → s.fixed ≡ Some about → s.turns ≡ 0 → s.seen ≡ [] → NewFrom about m (ss ++ s ∷ [])
  new_snoc about m [] s h n a b c = ((omega arith), a, b, c, tt)
  new_snoc about m (t ∷ ss) s h n a b c =
      (h.0, h.1, h.2, h.3, new_snoc about (suc m) ss s h.4 (omega arith) a b c)

  pub new_head : (about : X) (m : ℕ) (l : List (Sitting X E)) (d : Sitting X E) → 0 < length l → NewFrom about m l
      → (get_or l 0 d).fixed ≡ Some about
  new_head about m [] d lt h = absurd (omega arith)
  new_head about m (t ∷ l) d lt h = h.1

  -- the first seat gives a number more
  pub new_given : (about : X) (m n : ℕ) (l : List (Sitting X E)) (s d : Sitting X E) → NewFrom about m l
      → s ≡ record (get_or l 0 d) { given = n } → NewFrom about m (set l 0 s)
  new_given about m n [] s d h e = tt
  new_given about m n (t ∷ l) s d h e =
      (ap (λ s. s.number) e ∙ h.0, ap (λ s. s.fixed) e ∙ h.1, ap (λ s. s.turns) e ∙ h.2, ap (λ s. s.seen) e ∙ h.3, h.4)

  pub given_set : (l : List (Sitting X E)) (s : Sitting X E) → 0 < length l → given_of (set l 0 s) ≡ s.given
  given_set [] s lt = absurd (omega arith)
  given_set (t ∷ l) s lt = refl

  pub given_snoc : (l : List (Sitting X E)) (s : Sitting X E) → 0 < length l → given_of (l ++ s ∷ []) ≡ given_of l
  given_snoc [] s lt = absurd (omega arith)
  given_snoc (t ∷ l) s lt = refl

  pub numbered : (m : ℕ) (ss : List (Sitting X E)) → SeatsFrom m ss → NumberedFrom m (map old_of ss)
  numbered m [] h = tt
  numbered m (s ∷ ss) h = (h.0, numbered (suc m) ss h.1)

  pub covered : (seat_of : E → ℕ) (log : List E) (ss : List (Sitting X E)) → OldsCover seat_of log (map old_of ss)
      → SeatsCover seat_of log ss
  covered seat_of log [] h = tt
  covered seat_of log (s ∷ ss) h = (h.0, covered seat_of log ss h.1)
