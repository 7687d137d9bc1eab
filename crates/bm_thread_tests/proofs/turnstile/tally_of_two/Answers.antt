use Rattle.std.proofs.Common.{◌≡◌, ℕ, zero, suc, List, [], ◌∷◌, length, slice_get, Some, sym, ap, ◌∙◌, subst}
use Rattle.std.proofs.lemmas.Option.{same_Some}
use Rattle.bm_turnstile.specs.Sittings.{Sitting, Who, IsPost, who}
use Rattle.bm_thread_tests.specs.declared.turnstile.Made.{Made}
use Rattle.bm_turnstile.proofs.Places.{is_post}
use Rattle.bm_thread_tests.proofs.turnstile.tally_of_two.Goals as goal

abbrev S : Type 0
S = Sitting (Unit {0}) Made

each_of_three : (P : ℕ → S → Type 0) (l : List S) (a b c : S) → l ≡ a ∷ b ∷ c ∷ [] → P 0 a → P 1 b → P 2 c
    → (k : ℕ) (s : S) → slice_get l k ≡ Some s → P k s
each_of_three P l a b c e p q r k s at =
    subst (λ (l : List S). slice_get l k ≡ Some s → P k s) (sym e) (each k) at where
      each : (k : ℕ) → slice_get (a ∷ b ∷ c ∷ []) k ≡ Some s → P k s
      each zero at = subst (P 0) (same_Some a s at) p
      each (suc zero) at = subst (P 1) (same_Some b s at) q
      each (suc (suc zero)) at = subst (P 2) (same_Some c s at) r
      each (suc (suc (suc k))) at = absurd (cc)

pub two_threads-second-requires-clause-own : goal.two_threads-second-requires-clause-own
two_threads-second-requires-clause-own g c κs within =
    let each = c.in_ok-turnstile.ensures.each in
    let split = c.in-Some.ensures in
    let second = each 1 c.in-Some.second (ap (λ (l : List S). slice_get l 1) split) in
    let third = each 2 c.in-Some.third (ap (λ (l : List S). slice_get l 2) split) in
    (ap (λ (w : Who (Unit {0})). w.table) second.1, ap (λ (w : Who (Unit {0})). w.table) third.1)

pub two_threads-second-requires-clause-turns : goal.two_threads-second-requires-clause-turns
two_threads-second-requires-clause-turns g c κs within =
    let each = c.in_ok-turnstile.ensures.each in
    let split = c.in-Some.ensures in
    let second = each 1 c.in-Some.second (ap (λ (l : List S). slice_get l 1) split) in
    let third = each 2 c.in-Some.third (ap (λ (l : List S). slice_get l 2) split) in
    (second.0.turns, third.0.turns)

pub close-requires-clause-each : goal.close-requires-clause-each
close-requires-clause-each g c =
    let each = c.in_ok-turnstile.ensures.each in
    let split = c.in-Some.ensures in
    let back = c.two_threads-second.ensures.who in
    let table = c.in_ok-turnstile.turnstile in
    let first = each 0 c.in-Some.first (ap (λ (l : List S). slice_get l 0) split) in
    let second = each 1 c.in-Some.second (ap (λ (l : List S). slice_get l 1) split) in
    let third = each 2 c.in-Some.third (ap (λ (l : List S). slice_get l 2) split) in
    let items : List S = c.in_ok-seats.seats.items in
    let n : 3 ≡ length items = sym (ap (λ (l : List S). length l) c.in_ok-seats.ensures) in
    let P : ℕ → ℕ → S → Type 0 = λ n k s. IsPost table n k (who s) in
    each_of_three (P (length items)) items c.in-Some.first c.two_threads-second.result.0 c.two_threads-second.result.1
    c.in_ok-seats.ensures
    (subst (λ (n : ℕ). P n 0 c.in-Some.first) n (is_post table _ 3 0 (who c.in-Some.first) first.1))
    (subst (λ (n : ℕ). P n 1 c.two_threads-second.result.0) n (is_post table _ 3 1 _ (back.0 ∙ second.1)))
    (subst (λ (n : ℕ). P n 2 c.two_threads-second.result.1) n (is_post table _ 3 2 _ (back.1 ∙ third.1)))
