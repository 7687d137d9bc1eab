-- A number of two digits.
use Rattle.std.proofs.Common.{◌≡◌, ℕ, ◌+◌, ◌/◌, ◌%◌, ◌<◌, ◌≤◌, List, [], ◌∷◌, ◌++◌, ◌∙◌, ap, sym, arith}
use Rattle.std.proofs.Common.{append_assoc}
use Rattle.std.specs.Prelude.{decimal}
use Rattle.std.proofs.lemmas.Fmt.{decimal_digit, decimal_step}

-- a number below 100 of two digits
pub decimal_two : (n : ℕ) → 10 ≤ n → n < 100 → decimal n ≡ (48 + n / 10) ∷ (48 + n % 10) ∷ []
decimal_two n some few =
    decimal_step n some (omega arith)
    ∙ ap (λ x. x ++ (48 + n % 10) ∷ []) (decimal_digit (n / 10) (omega arith))

-- two digits were written one after the other
pub two_more : (old now new : List ℕ) (n : ℕ) → 10 ≤ n → n < 100 → now ≡ old ++ (48 + n / 10) ∷ []
    → new ≡ now ++ (48 + n % 10) ∷ [] → new ≡ old ++ decimal n
two_more old now new n some few before step =
    step
    ∙ ap (λ x. x ++ (48 + n % 10) ∷ []) before
    ∙ append_assoc old ((48 + n / 10) ∷ []) ((48 + n % 10) ∷ [])
    ∙ ap (λ x. old ++ x) (sym (decimal_two n some few))
