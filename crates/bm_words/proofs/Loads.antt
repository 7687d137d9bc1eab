-- What clap makes of the words of a load.
use Rattle.std.proofs.Common.{◌≡◌, ◌==◌, ℕ, List, [], ◌∷◌, Bool, true, false, cond, Some, None}
use Rattle.std.proofs.Common.{is_some, codes, refl, sym, ap, subst, ◌∙◌, arith}
use Rattle.std.proofs.lemmas.Bool.Decides.{nat_tests}
use Rattle.std.proofs.lemmas.Slice.Eq.{bytes_eq-Decides}
use Rattle.std.specs.Str.{bytes_eq}
use Rattle.clap.specs.Words.{Text, subcommand_of, takes}
use Rattle.clap.proofs.OnLiterals.{clap_on_literals}
use Rattle.bm_words.specs.Inside.Command.{beamer}
use Rattle.bm_words.specs.Form.{connections_of, count_of}
use Rattle.bm_words.proofs.Given.{value_given}

load_taken : (x : ℕ) (xs : List ℕ) → (x == 45) ≡ false → takes beamer (codes "load" ∷ (x ∷ xs) ∷ []) ≡ true
unfolding clap_on_literals
load_taken x xs h = simp h

load_given : (x : ℕ) (xs : List ℕ) → (x == 45) ≡ false →
    value_given (codes "connections") (subcommand_of beamer (codes "load" ∷ (x ∷ xs) ∷ [])) ≡ Some (x ∷ xs)
unfolding clap_on_literals
load_given x xs h = simp h

-- a count doesn't begin with `-`
minus_no_count : (xs : List ℕ) → count_of (45 ∷ xs) ≡ None
unfolding count_of
minus_no_count xs = refl

empty_no_count : count_of [] ≡ None
unfolding count_of
empty_no_count = refl

no_minus : (x : ℕ) (xs : List ℕ) → is_some (count_of (x ∷ xs)) ≡ true → (x == 45) ≡ false
no_minus x xs some = by (x == 45) refl where
  by : (b : Bool) → (x == 45) ≡ b → b ≡ false
  by false is = refl
  by true is =
      let same : x ≡ 45 = grind (arith, nat_tests, is) in
      let none = ap (λ c. count_of (c ∷ xs)) same ∙ minus_no_count xs in
      let no = rw none at some in
      cc

-- what clap makes of the words: it takes them, and gives the number
pub record ReadsLoad (words : List Text) : Type 0 where
  pub number : Text
  pub taken : takes beamer words ≡ true
  pub gives : value_given (codes "connections") (subcommand_of beamer words) ≡ Some number
  pub count : connections_of words ≡ count_of number

behind : (x : ℕ) (xs : List ℕ) → is_some (count_of (x ∷ xs)) ≡ true → ReadsLoad (codes "load" ∷ (x ∷ xs) ∷ [])
behind x xs some = record {
  number = x ∷ xs;
  taken = load_taken x xs (no_minus x xs some);
  gives = load_given x xs (no_minus x xs some);
  count = refl;
}

at : (w number : Text) (b : Bool) → bytes_eq w (codes "load") ≡ b → is_some (cond b (count_of number) None) ≡ true
    → ReadsLoad (w ∷ number ∷ [])
at w number false is some = absurd (cc)
at w [] true is some = let no = rw empty_no_count at some in absurd (cc)
at w (x ∷ xs) true is some =
    subst (λ u. ReadsLoad (u ∷ (x ∷ xs) ∷ [])) (sym ((bytes_eq-Decides w (codes "load")).0 is)) (behind x xs some)

pub load_reads : (words : List Text) → is_some (connections_of words) ≡ true → ReadsLoad words
load_reads [] some = absurd (cc)
load_reads (w ∷ []) some = absurd (cc)
load_reads (w ∷ number ∷ []) some = at w number (bytes_eq w (codes "load")) refl some
load_reads (w ∷ number ∷ more ∷ rest) some = absurd (cc)

pub no_count : (words : List Text) (number : Text) → is_some (connections_of words) ≡ true
    → connections_of words ≡ count_of number → None ≡ count_of number → ⊥
no_count words number some count none = let no = rw (count, ← none) at some in cc
