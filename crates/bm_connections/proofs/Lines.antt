-- A line more of a text.
use Rattle.std.proofs.Common.{◌≡◌, ℕ, ◌+◌, ◌<◌, List, [], ◌∷◌, ◌++◌, length, take, get_or}
use Rattle.std.proofs.Common.{flat_map, ap, ◌∙◌, sym, arith}
use Rattle.std.proofs.Common.{append_assoc}
use Rattle.std.proofs.lemmas.Grind.{common_steps}
use Rattle.std.proofs.lemmas.List.{append-nil}
use Rattle.std.proofs.lemmas.List.Concat.{flat_map-append}

line_more : {X : Type 0} (line : X → List ℕ) (xs : List X) (i : ℕ) (d : X) → i < length xs
    → flat_map line (take (i + 1) xs) ≡ flat_map line (take i xs) ++ line (get_or xs i d)
line_more line xs i d below =
    let e : take (i + 1) xs ≡ take i xs ++ get_or xs i d ∷ [] = grind (arith, common_steps)
    in ap (flat_map line) e ∙ flat_map-append line (take i xs) (get_or xs i d ∷ [])
    ∙ ap (λ l. flat_map line (take i xs) ++ l) (append-nil (line (get_or xs i d)))

pub lines_more : {X : Type 0} (line : X → List ℕ) (xs : List X) (i : ℕ) (d : X) (first old new : List ℕ)
    → i < length xs → new ≡ old ++ line (get_or xs i d) → old ≡ first ++ flat_map line (take i xs)
    → new ≡ first ++ flat_map line (take (i + 1) xs)
lines_more line xs i d first old new below n o =
    n ∙ ap (λ l. l ++ line (get_or xs i d)) o
    ∙ append_assoc first (flat_map line (take i xs)) (line (get_or xs i d))
    ∙ ap (λ l. first ++ l) (sym (line_more line xs i d below))

-- four texts more
pub four_more : (t a b c d t₁ t₂ t₃ t₄ : List ℕ) → t₁ ≡ t ++ a → t₂ ≡ t₁ ++ b → t₃ ≡ t₂ ++ c → t₄ ≡ t₃ ++ d →
    t₄ ≡ t ++ (a ++ b ++ c ++ d)
four_more t a b c d t₁ t₂ t₃ t₄ one two three four =
    four ∙ ap (λ l. l ++ d) (three ∙ ap (λ l. l ++ c) (two ∙ ap (λ l. l ++ b) one ∙ append_assoc t a b)
    ∙ append_assoc t (a ++ b) c) ∙ append_assoc t (a ++ b ++ c) d
