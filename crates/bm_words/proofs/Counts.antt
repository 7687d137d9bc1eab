-- What the library's reading of a number makes of a numeral.
use Rattle.std.proofs.Common.{◌≡◌, ◌<◌, ◌^◌, ℕ, List, [], ◌∷◌, true, false, None, Result, Err}
use Rattle.std.proofs.Common.{refl, sym, subst, rules, arith, length, not, ◌==◌, nat_le}
use Rattle.std.proofs.lemmas.Bool.{and_parts}
use Rattle.std.proofs.lemmas.Bool.Decides.{nat_tests}
use Rattle.std.proofs.lemmas.Str.Parse.{IsNumeralModel, numerals_by_value, parse_digits}
use Rattle.std.specs.Char.{is_ascii_digit}
use Rattle.std.specs.List.{list_all}
use Rattle.std.specs.Result.{OkIff}
use Rattle.std.specs.Str.Parse.{ParsesUnsigned, digits_value}
use Rattle.bm_words.specs.Form.{count_of, if_count, is_numeral}

abbrev AreDigits : List ℕ → Type 0
AreDigits word = list_all is_ascii_digit word ≡ true

own : IsNumeralModel AreDigits (digits_value 10)
own = numerals_by_value _ (search rules)

none_above : (n : ℕ) → 20000 < n → if_count n ≡ None
none_above n large =
    let not_within : nat_le n 20000 ≡ false = grind (arith, nat_tests, large) in
    rw not_within (grind arith)

large : (n : ℕ) → ¬ (n < 2 ^ 32) → 20000 < n
large n not = omega (arith, not)

-- a numeral that isn't read is no count
pub too_large : {E : Type 0} (word : List ℕ) (r : Result ℕ E) (e : E) → is_numeral word ≡ true
    → ParsesUnsigned 32 10 word r → r ≡ Err e → None ≡ count_of word
unfolding count_of
too_large [] r e is read err = refl
too_large (x ∷ xs) r e is read err =
    let word : List ℕ = x ∷ xs in
    let digits = (and_parts (not (x == 48)) _ is).1 in
    let no = subst (λ r. OkIff r ((0 < length word) × (digits_value 10 word < 2 ^ 32)) (digits_value 10 word)) err
    (parse_digits own 32 word r read digits) in
    rw is (sym (none_above (digits_value 10 word) (large (digits_value 10 word) (λ few. no (omega arith, few)))))
