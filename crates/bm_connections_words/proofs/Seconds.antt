-- What the library's reading of a number makes of a numeral.
use Rattle.std.proofs.Common.{◌≡◌, ◌<◌, ◌^◌, ℕ, List, [], ◌∷◌, true, false, Some, Result, Ok, Err}
use Rattle.std.proofs.Common.{refl, ap, rules, arith, length, not, ◌==◌, nat_lt}
use Rattle.std.proofs.lemmas.Bool.{and_parts}
use Rattle.std.proofs.lemmas.Bool.Decides.{nat_tests}
use Rattle.std.proofs.lemmas.Str.Parse.{IsNumeralModel, numerals_by_value, parse_digits}
use Rattle.std.specs.Char.{is_ascii_digit}
use Rattle.std.specs.List.{list_all}
use Rattle.std.specs.Result.{OkIff, result_ok}
use Rattle.std.specs.Str.Parse.{ParsesUnsigned, digits_value}
use Rattle.bm_words.specs.Form.{is_numeral}
use Rattle.bm_connections_words.specs.Words.{seconds_of}

abbrev AreDigits : List ℕ → Type 0
AreDigits word = list_all is_ascii_digit word ≡ true

own : IsNumeralModel AreDigits (digits_value 10)
own = numerals_by_value _ (search rules)

by_value : {E : Type 0} (word : List ℕ) (r : Result ℕ E) → is_numeral word ≡ true → 0 < length word
    → OkIff r ((0 < length word) × (digits_value 10 word < 2 ^ 32)) (digits_value 10 word)
    → result_ok r ≡ seconds_of word
unfolding seconds_of
by_value word (Ok n) is some read =
    let below : nat_lt (digits_value 10 word) (2 ^ 32) ≡ true = grind (arith, nat_tests, read.0.1) in
    rw is (rw below (ap Some read.1))
by_value word (Err e) is some read =
    let above : nat_lt (digits_value 10 word) (2 ^ 32) ≡ false =
    grind (arith, nat_tests, λ (few : digits_value 10 word < 2 ^ 32). read (some, few)) in
    rw is (rw above refl)

-- a numeral is read as the seconds that it says
pub seconds_read : {E : Type 0} (word : List ℕ) (r : Result ℕ E) → is_numeral word ≡ true
    → ParsesUnsigned 32 10 word r → result_ok r ≡ seconds_of word
seconds_read [] r is read = absurd (cc)
seconds_read (x ∷ xs) r is read =
    let word : List ℕ = x ∷ xs in
    let digits = (and_parts (not (x == 48)) _ is).1 in
    by_value word r is (omega arith) (parse_digits own 32 word r read digits)
