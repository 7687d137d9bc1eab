-- The parts of a report, one after the other.
use Rattle.std.proofs.Common.{◌≡◌, ℕ, List, [], ◌∷◌, ◌++◌, Result, Ok, Err, ap, append_assoc, ◌∙◌}
use Rattle.std.specs.Prelude.{IfOk, IsOkAnd}

-- a part was appended, which is the one that is due
pub added : {E : Type 0} (part : Result (List ℕ) E) (old new : List (List ℕ)) (text due : List ℕ) →
    IsOkAnd part (λ t. new ≡ old ++ t ∷ []) → IfOk part (λ t. t ≡ text) → text ≡ due → new ≡ old ++ due ∷ []
added (Ok t) old new text due is from same = is ∙ ap (λ x. old ++ x ∷ []) (from ∙ same)
added (Err e) old new text due is from same = absurd is

-- one more list after others
pub then_more : {X : Type 0} (first xs ys : List X) (old new : List X) → old ≡ first ++ xs → new ≡ old ++ ys →
    new ≡ first ++ (xs ++ ys)
then_more first xs ys old new o n = n ∙ ap (λ l. l ++ ys) o ∙ append_assoc first xs ys
